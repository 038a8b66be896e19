use Rattle.std.proofs.Common.{◌≡◌, length}
use Rattle.lk_sql.specs.Meaning.{cell_in}
use Rattle.lk_exec.proofs.cells.cell_under.Given as goal

abbrev pub invariant-loop-left : goal.invariant-loop-left
invariant-loop-left l = cell_in l.left l.label ≡ cell_in l.cells l.label

abbrev pub decreases-loop-left : goal.decreases-loop-left
decreases-loop-left l = length l.left
