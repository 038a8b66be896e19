use Rattle.std.proofs.Common.{◌≡◌, length}
use Rattle.lk_ast.specs.Tables.{rows_of}
use Rattle.lk_exec.proofs.cells.rows_under.Given as goal

abbrev pub invariant-loop-left : goal.invariant-loop-left
invariant-loop-left l = rows_of l.left l.name ≡ rows_of l.tables l.name

abbrev pub decreases-loop-left : goal.decreases-loop-left
decreases-loop-left l = length l.left
