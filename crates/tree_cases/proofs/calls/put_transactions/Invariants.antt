use Rattle.std.proofs.Common.{◌≡◌, false}
use Rattle.tree_cases.proofs.calls.put_transactions.Given as goal

abbrev pub invariant-loop-words : goal.invariant-loop-words
invariant-loop-words g l = (goal.Store-dyn g l.store.now).is_open l.store.now.1 ≡ false
