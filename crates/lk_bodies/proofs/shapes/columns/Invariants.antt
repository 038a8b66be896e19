use Rattle.std.proofs.Common.{◌≡◌, map, take}
use Rattle.lk_bodies.proofs.shapes.columns.Given as goal
use Rattle.lk_bodies.specs.Shapes.{column}

abbrev pub invariant-loop-field : goal.invariant-loop-field
invariant-loop-field l = l.columns ≡ map column (take l.field-index l.fields)
