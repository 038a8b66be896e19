use Rattle.std.proofs.Common.{◌≡◌, map, take}
use Rattle.lk_types.specs.Moves.{renumbered}
use Rattle.lk_types.proofs.moves.moved_numbers.Given as goal

abbrev pub invariant-loop-number : goal.invariant-loop-number
invariant-loop-number l = l.all.items ≡ map (renumbered l.numbering) (take l.number-index l.numbers)
