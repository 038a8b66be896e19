-- No function stands in the rows of tables.
use Rattle.std.proofs.Common.{◌≡◌, Bool, false, ◌||◌, List, [], ◌∷◌, map, refl, ◌∙◌}
use Rattle.std.specs.List.{list_any}
use Rattle.lk_ast.proofs.PlainLevels.{of_base, of_list, of_fields}
use Rattle.lk_ast.specs.Plain.{holds_function}
use Rattle.lk_ast.specs.Rows.{row_value, rows_value}
use Rattle.lk_ast.specs.declared.table.Cell.{Cell}
use Rattle.lk_ast.specs.declared.table.Row.{Row}
use Rattle.lk_ast.specs.declared.value.Field.{Field}
use Rattle.lk_ast.specs.declared.value.Value.TheVariants as value

-- a cell as a field
abbrev field_of : Cell → Field
field_of cell = record { label = cell.label; value = value.Base cell.value }

cells_plain : (cells : List Cell) → list_any (λ (f : Field). holds_function f.value) (map field_of cells) ≡ false
cells_plain [] = refl
cells_plain (cell ∷ cells) = (λ i. of_base cell.value i || list_any (λ (f : Field). holds_function f.value) (map field_of cells)) ∙ cells_plain cells

row_plain : (row : Row) → holds_function (row_value row) ≡ false
row_plain row = of_fields (map field_of row.cells) ∙ cells_plain row.cells

each_plain : (rows : List Row) → list_any holds_function (map row_value rows) ≡ false
each_plain [] = refl
each_plain (row ∷ rows) = (λ i. row_plain row i || list_any holds_function (map row_value rows)) ∙ each_plain rows

pub rows_plain : (rows : List Row) → holds_function (rows_value rows) ≡ false
rows_plain rows = of_list (map row_value rows) ∙ each_plain rows
