use Rattle.std.proofs.Common.{◌≡◌, ◌++◌}
use Rattle.std.specs.Vec.Iter.{into_iter_items}
use Rattle.lk_bodies.proofs.shapes.labels.Given as goal
use Rattle.lk_bodies.specs.Shapes.{labels}

abbrev pub invariant-loop-column : goal.invariant-loop-column
invariant-loop-column l = l.labels ++ labels (into_iter_items l.column-iterator) ≡ labels l.fn.columns
