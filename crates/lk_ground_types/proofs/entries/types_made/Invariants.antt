use Rattle.std.proofs.Common.{◌≡◌, map, take}
use Rattle.lk_ground_types.specs.Grounds.{at, types_of}
use Rattle.lk_ground_types.proofs.entries.types_made.Given as goal

abbrev pub invariant-loop-number : goal.invariant-loop-number
invariant-loop-number l = l.types ≡ map (at (types_of l.entries)) (take l.number-index l.numbers)
