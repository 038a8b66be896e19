use Rattle.std.proofs.Common.{◌≡◌, take}
use Rattle.lk_bodies.specs.Shapes.{labels}
use Rattle.lk_inline.proofs.inline.labels.Given as goal

abbrev pub invariant-loop-column : goal.invariant-loop-column
invariant-loop-column l = l.labels ≡ labels (take l.column-index l.columns)
