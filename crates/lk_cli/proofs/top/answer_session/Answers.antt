use Rattle.std.proofs.Common.{◌≡◌, arith, refl, inl, inr, rules, Some, None}
use Rattle.lk_cli.proofs.Stages.{came_back, none_failed, none_picked, told_back, tried_answer}
use Rattle.lk_cli.specs.Seen.{picked_seen, seen, store_seen}
use Rattle.lk_cli.proofs.top.answer_session.Goals as goal

pub returns-in_default-clause-answers : goal.returns-in_default-clause-answers
returns-in_default-clause-answers g c =
    inl (c.no_store.ensures (picked_seen (λ store. (goal.Store-dyn g (store.vtable, store.value)).tables store.value) (λ store. (goal.Store-dyn g (store.vtable, store.value)).commits store.value) (λ store. (goal.Store-dyn g (store.vtable, store.value)).faults store.value) c.args.picked None) (none_picked (λ store. (goal.Store-dyn g (store.vtable, store.value)).tables store.value) (λ store. (goal.Store-dyn g (store.vtable, store.value)).commits store.value) (λ store. (goal.Store-dyn g (store.vtable, store.value)).faults store.value) c.args.picked (search rules)) refl)

pub returns-in-Err-clause-answers : goal.returns-in-Err-clause-answers
returns-in-Err-clause-answers g c =
    let stores = picked_seen (λ store. (goal.Store-dyn g (store.vtable, store.value)).tables store.value) (λ store. (goal.Store-dyn g (store.vtable, store.value)).commits store.value) (λ store. (goal.Store-dyn g (store.vtable, store.value)).faults store.value) c.args.picked (Some c.in-Some.store) in
    let before = store_seen (λ store. (goal.Store-dyn g (store.vtable, store.value)).tables store.value) (λ store. (goal.Store-dyn g (store.vtable, store.value)).commits store.value) (λ store. (goal.Store-dyn g (store.vtable, store.value)).faults store.value) c.in-Some.store in
    inr (inl (c.in-Err.ensures.refused, came_back stores before before (λ b a. a ≡ b) (told_back (λ store. (goal.Store-dyn g (store.vtable, store.value)).tables store.value) (λ store. (goal.Store-dyn g (store.vtable, store.value)).commits store.value) (λ store. (goal.Store-dyn g (store.vtable, store.value)).faults store.value) c.args.picked c.in-Some.store (search rules)) refl (omega arith) refl))

pub returns-clause-answers : goal.returns-clause-answers
returns-clause-answers g c =
    let files = seen g.F.Files.contents g.F.Files.failed g.F.Files.faults c.args.files.now c.rows_of_session.new.files in
    let stores = picked_seen (λ store. (goal.Store-dyn g (store.vtable, store.value)).tables store.value) (λ store. (goal.Store-dyn g (store.vtable, store.value)).commits store.value) (λ store. (goal.Store-dyn g (store.vtable, store.value)).faults store.value) c.args.picked c.tell.result.store in
    let before = store_seen (λ store. (goal.Store-dyn g (store.vtable, store.value)).tables store.value) (λ store. (goal.Store-dyn g (store.vtable, store.value)).commits store.value) (λ store. (goal.Store-dyn g (store.vtable, store.value)).faults store.value) c.in-Some.store in
    let after = store_seen (λ store. (goal.Store-dyn g (store.vtable, store.value)).tables store.value) (λ store. (goal.Store-dyn g (store.vtable, store.value)).commits store.value) (λ store. (goal.Store-dyn g (store.vtable, store.value)).faults store.value) c.run_in_box.result.store in
    tried_answer files stores c.args.command.now c.args.program.now c.in-Ok.rows.loaded c.run_in_box.result.outcome before after c.tell.result.answer
    c.tell.ensures.answer (told_back (λ store. (goal.Store-dyn g (store.vtable, store.value)).tables store.value) (λ store. (goal.Store-dyn g (store.vtable, store.value)).commits store.value) (λ store. (goal.Store-dyn g (store.vtable, store.value)).faults store.value) c.args.picked c.in-Some.store (search rules)) (told_back _ _ _ _ _ c.tell.ensures.store)
    c.in-Ok.ensures.loaded c.run_in_box.ensures.session c.run_in_box.ensures.refused c.run_in_box.ensures.cause

pub returns-clause-reads : goal.returns-clause-reads
returns-clause-reads g c = none_failed _ _ c.tell.result.answer c.in-Ok.ensures.reads
