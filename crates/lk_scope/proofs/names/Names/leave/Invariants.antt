use Rattle.std.proofs.Common.{◌≡◌, length}
use Rattle.lk_scope.specs.Leaving.{without}
use Rattle.lk_scope.proofs.names.Names.leave.Given as goal

abbrev pub invariant-loop-name : goal.invariant-loop-name
invariant-loop-name l = without l.left l.self ≡ without l.initial.left l.initial.self

abbrev pub decreases-loop-name : goal.decreases-loop-name
decreases-loop-name l = length l.left
