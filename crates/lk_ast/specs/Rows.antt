-- Rows of tables as values.
use Rattle.std.specs.Prelude.{List, map}
use Rattle.lk_ast.specs.declared.table.Cell.{Cell}
use Rattle.lk_ast.specs.declared.table.Row.{Row}
use Rattle.lk_ast.specs.declared.value.Value.{Value}
use Rattle.lk_ast.specs.declared.value.Value.TheVariants as value

-- a row is a record
abbrev pub row_value : Row → Value
row_value row = value.Fields (map {A = Cell} (λ cell. record { label = cell.label; value = value.Base cell.value }) row.cells)

-- a table is a list of records
abbrev pub rows_value : List Row → Value
rows_value rows = value.List (map row_value rows)
