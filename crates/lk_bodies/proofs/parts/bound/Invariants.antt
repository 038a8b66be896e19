use Rattle.std.proofs.Common.{◌≡◌, [], drop}
use Rattle.lk_bodies.proofs.parts.bound.Given as goal
use Rattle.lk_bodies.specs.Walk.{bound}

abbrev pub invariant-loop-param : goal.invariant-loop-param
invariant-loop-param l = bound l.names (drop l.param-index l.params) l.left ≡ bound [] l.params l.numbers
