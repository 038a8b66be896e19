use Rattle.std.proofs.Common.{◌≡◌, ◌++◌, map}
use Rattle.std.specs.Vec.Iter.{into_iter_items}
use Rattle.lk_bag.specs.Cells.{cell_field}
use Rattle.lk_bag.proofs.rows.cells_in.Given as goal

abbrev pub invariant-loop-field : goal.invariant-loop-field
invariant-loop-field l = map cell_field l.cells ++ into_iter_items l.field-iterator ≡ l.fn.fields
