use Rattle.std.proofs.Common.{◌≡◌, map, take}
use Rattle.lk_exec.specs.Writings.{new_cell}
use Rattle.lk_exec.proofs.changes.new_row.Given as goal

abbrev pub invariant-loop-cell : goal.invariant-loop-cell
invariant-loop-cell l = l.cells ≡ map (new_cell l.params l.sets l.row) (take l.cell-index l.row.cells)
