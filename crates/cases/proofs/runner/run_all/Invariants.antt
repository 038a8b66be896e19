use Rattle.std.proofs.Common.{◌≡◌, All, false}
use Rattle.cases.proofs.runner.run_all.Given as goal

abbrev pub invariant-loop-run : goal.invariant-loop-run
invariant-loop-run g l =
    All (λ store. (goal.Store-dyn g (store.vtable, store.value)).is_open store.value ≡ false) l.handed.items
