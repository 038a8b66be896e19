use Rattle.std.proofs.Common.{◌≡◌, map, take}
use Rattle.lk_ground_types.specs.Grounds.{part_made, types_of}
use Rattle.lk_ground_types.proofs.entries.fields_made.Given as goal

abbrev pub invariant-loop-part : goal.invariant-loop-part
invariant-loop-part l = l.fields ≡ map (part_made (types_of l.entries)) (take l.part-index l.parts)
