use Rattle.lk_arena.proofs.flat.flat_row.Given as goal
use Rattle.lk_classes.specs.Classes.{class_at}
use Rattle.lk_arena.specs.Covering.{IsFlatCounted}
use Rattle.lk_arena.specs.Kinds.{IsFlatKinded}
use Rattle.lk_arena.specs.Lookups.{AreNoted}
use Rattle.lk_arena.specs.Measures.{unmet}
use Rattle.lk_arena.specs.Shapes.{IsFlatBut}
use Rattle.lk_arena.specs.Ways.{HasWay}

abbrev pub invariant-loop-tail : goal.invariant-loop-tail
invariant-loop-tail l = record {
  flat : IsFlatBut l.hole l.arena.shapes l.arena.classes l.row l.fields l.tail;
  kinds : IsFlatKinded l.arena.shapes l.arena.classes l.row l.fields l.tail;
  counts : IsFlatCounted l.hole l.arena.shapes l.arena.classes l.row l.fields l.tail;
  way : HasWay l.arena.shapes l.arena.classes l.own (class_at l.arena.classes l.first) l.fields l.tail;
  noted : AreNoted l.labels l.unnoted l.fields;
}

abbrev pub decreases-loop-tail : goal.decreases-loop-tail
decreases-loop-tail l = unmet l.fields l.arena.shapes
