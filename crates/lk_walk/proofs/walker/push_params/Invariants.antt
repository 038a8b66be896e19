use Rattle.std.proofs.Common.{◌≡◌, ◌+◌, ◌++◌, length}
use Rattle.lk_typing.specs.Walk.{params_from}
use Rattle.lk_walk.proofs.walker.push_params.Given as goal

abbrev pub invariant-loop-param : goal.invariant-loop-param
invariant-loop-param l =
    (params_from l.first l.rest ++ l.names ≡ params_from l.first l.params ++ l.initial.names) × (l.number ≡ length l.rest + l.first)

abbrev pub decreases-loop-param : goal.decreases-loop-param
decreases-loop-param l = length l.rest
