use Rattle.std.proofs.Common.{◌≡◌, map, take}
use Rattle.lk_infer.specs.LacksInOrder.{scheme_for}
use Rattle.lk_infer.proofs.schemes.schemes_with.Given as goal

abbrev pub invariant-loop-number : goal.invariant-loop-number
invariant-loop-number l = l.schemes ≡ map (scheme_for l.all) (take l.number l.bodies)
