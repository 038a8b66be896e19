use Rattle.std.proofs.Common.{◌≡◌, true}
use Rattle.tree_cases.proofs.calls.put_answers.Given as goal

abbrev pub invariant-loop-word : goal.invariant-loop-word
invariant-loop-word g l = (goal.Store-dyn g l.store.now).is_open l.store.now.1 ≡ true
