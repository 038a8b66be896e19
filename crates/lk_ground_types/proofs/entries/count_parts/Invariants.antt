use Rattle.std.proofs.Common.{◌≡◌, ◌+◌, map, take}
use Rattle.std.specs.Prelude.{sum}
use Rattle.lk_ground_types.proofs.EntriesMade.{part_nodes}
use Rattle.lk_ground_types.specs.Counting.{capped}
use Rattle.lk_ground_types.specs.Grounds.{types_of}
use Rattle.lk_ground_types.proofs.entries.count_parts.Given as goal

abbrev pub invariant-loop-part : goal.invariant-loop-part
invariant-loop-part l = l.total ≡ capped (1 + sum (map (part_nodes (types_of l.entries)) (take l.part-index l.parts)))
