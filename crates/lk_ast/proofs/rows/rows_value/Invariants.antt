use Rattle.std.proofs.Common.{◌≡◌, take, map}
use Rattle.lk_ast.specs.Rows.{row_value}
use Rattle.lk_ast.proofs.rows.rows_value.Given as goal

abbrev pub invariant-loop-row : goal.invariant-loop-row
invariant-loop-row l = l.values ≡ map row_value (take l.row-index l.rows)
