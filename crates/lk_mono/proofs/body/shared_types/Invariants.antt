use Rattle.std.proofs.Common.{◌≡◌, map, take}
use Rattle.lk_ground_types.specs.Grounds.{at}
use Rattle.lk_mono.proofs.body.shared_types.Given as goal

abbrev pub invariant-loop-number : goal.invariant-loop-number
invariant-loop-number l = l.types ≡ map (at l.grounds) (take l.number-index l.numbers)
