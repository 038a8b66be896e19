use Rattle.lk_process.proofs.Given.{ends_for}
use Rattle.lk_process.proofs.process.end_with.Goals as goal

pub returns-clause-ends : goal.returns-clause-ends
returns-clause-ends g c =
    ends_for (λ store. (goal.Store-dyn g (store.vtable, store.value)).name store.value) (λ store. (goal.Store-dyn g (store.vtable, store.value)).tables store.value) (λ store. (goal.Store-dyn g (store.vtable, store.value)).commits store.value) (λ store. (goal.Store-dyn g (store.vtable, store.value)).faults store.value)
    c.args.stores.items c.links_main-ran.result.store _ _ _ _ _ _ _ _ c.requires.one c.requires.named c.requires.empty c.requires.commits c.requires.faults c.links_main-ran.ensures.answer
