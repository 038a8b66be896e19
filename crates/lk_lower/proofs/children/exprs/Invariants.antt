use Rattle.std.proofs.Common.{◌≡◌, ◌++◌, drop}
use Rattle.lk_lower.specs.Walked.{shown}
use Rattle.lk_lower.proofs.children.exprs.Given as goal

abbrev pub invariant-loop-e : goal.invariant-loop-e
invariant-loop-e l = shown l.found ++ drop l.e-index l.list ≡ shown l.initial.found ++ l.list
