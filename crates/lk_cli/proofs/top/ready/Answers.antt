use Rattle.std.proofs.Common.{◌≡◌, false, sym, bytes_eq}
use Rattle.lk_sound.proofs.Bindings.{same_bytes}
use Rattle.lk_cli.proofs.Found.{holds_of_found, passes}
use Rattle.lk_cli.proofs.top.ready.Goals as goal

pub returns-clause-idle : goal.returns-clause-idle
returns-clause-idle g c = rw c.pick.ensures (holds_of_found (λ store. (goal.Store-dyn g (store.vtable, store.value)).is_open store.value ≡ false) _ c.args.stores.items c.requires.idle)

pub returns-clause-named : goal.returns-clause-named
returns-clause-named g c =
    rw c.pick.ensures
    (passes (λ store. bytes_eq c.args.wanted.now ((goal.Store-dyn g (store.vtable, store.value)).name store.value)) (λ store. (goal.Store-dyn g (store.vtable, store.value)).name store.value ≡ c.args.wanted.now) c.args.stores.items (λ store is. sym (same_bytes _ _ is)))
