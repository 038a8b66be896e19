use Rattle.std.proofs.Common.{◌≡◌, ◌<◌}
use Rattle.lk_ir.specs.Tables.{most_instances}
use Rattle.lk_lower.specs.Instances.{FollowFuns}
use Rattle.lk_lower.specs.Walked.{state_of}
use Rattle.lk_lower.proofs.lowering.instances.Given as goal

abbrev pub invariant-loop-fun : goal.invariant-loop-fun
invariant-loop-fun l = FollowFuns l.funs l.number (state_of l.walk) l.wholes l.titles × ((state_of l.walk).locals ≡ l.locals) × (l.number ≡ l.fun-index) × (l.number < most_instances)
