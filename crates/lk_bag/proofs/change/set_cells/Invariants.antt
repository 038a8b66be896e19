use Rattle.std.proofs.Common.{◌≡◌, ◌++◌, map}
use Rattle.std.specs.Vec.Iter.{into_iter_items}
use Rattle.lk_bag.specs.Cells.{cell_set}
use Rattle.lk_bag.proofs.change.set_cells.Given as goal

abbrev pub invariant-loop-cell : goal.invariant-loop-cell
invariant-loop-cell l = l.after ++ map (cell_set l.index l.change l.inner) (into_iter_items l.cell-iterator) ≡ l.initial.after ++ map (cell_set l.index l.change l.inner) (into_iter_items l.initial.cell-iterator)
