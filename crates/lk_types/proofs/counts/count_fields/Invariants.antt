use Rattle.std.proofs.Common.{List, map, take}
use Rattle.std.specs.Prelude.{sum}
use Rattle.lk_types.specs.Counts.{AreCounts, IsCount, part_nodes}
use Rattle.lk_types.specs.declared.ty.Ty.{Ty}
use Rattle.lk_types.proofs.counts.count_fields.Given as goal

abbrev pub invariant-loop-field : goal.invariant-loop-field
invariant-loop-field l = (ts : List Ty) → AreCounts l.counts ts → IsCount l.total (sum (map (part_nodes ts) (take l.field-index l.fields)))
