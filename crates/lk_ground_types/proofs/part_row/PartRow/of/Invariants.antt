use Rattle.std.proofs.Common.{◌≡◌, drop}
use Rattle.lk_ground_types.specs.Grounds.{row_of_parts}
use Rattle.lk_ground_types.proofs.part_row.PartRow.of.Given as goal

abbrev pub invariant-loop-i : goal.invariant-loop-i
invariant-loop-i l = l.row ≡ row_of_parts (drop l.i l.parts)
