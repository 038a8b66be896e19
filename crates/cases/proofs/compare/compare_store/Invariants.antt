use Rattle.std.proofs.Common.{◌≡◌, false}
use Rattle.cases.proofs.compare.compare_store.Given as goal

abbrev pub invariant-loop-held : goal.invariant-loop-held
invariant-loop-held g l = (goal.Store-dyn g l.store.now).is_open l.store.now.1 ≡ false
