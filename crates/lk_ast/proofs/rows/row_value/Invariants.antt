use Rattle.std.proofs.Common.{◌≡◌, take, map}
use Rattle.lk_ast.specs.declared.table.Cell.{Cell}
use Rattle.lk_ast.specs.declared.value.Value.TheVariants as value
use Rattle.lk_ast.proofs.rows.row_value.Given as goal

abbrev pub invariant-loop-cell : goal.invariant-loop-cell
invariant-loop-cell l = l.fields ≡ map {A = Cell} (λ cell. record { label = cell.label; value = value.Base cell.value }) (take l.cell-index l.cell-items)
