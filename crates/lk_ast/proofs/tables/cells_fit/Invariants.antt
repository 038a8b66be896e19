use Rattle.std.proofs.Common.{◌≡◌, length}
use Rattle.lk_ast.specs.Tables.{cells_fit}
use Rattle.lk_ast.proofs.tables.cells_fit.Given as goal

abbrev pub invariant-loop-columns_left : goal.invariant-loop-columns_left
invariant-loop-columns_left l = cells_fit l.columns_left l.cells_left ≡ cells_fit l.fn.columns l.fn.cells

abbrev pub decreases-loop-columns_left : goal.decreases-loop-columns_left
decreases-loop-columns_left l = length l.columns_left
