-- The rows in the value of rows are these rows; and no function stands in it.
use Rattle.lk_sound.proofs.UpdatedRows.{base_itself}
use Rattle.std.proofs.Common.{◌≡◌, Bool, false, ◌||◌, List, [], ◌∷◌, Some, map, refl, sym, ◌∙◌, ap, ap₂}
use Rattle.std.specs.List.{list_any}
use Rattle.lk_ast.proofs.PlainRows.{rows_plain}
use Rattle.lk_ast.specs.Plain.{holds_function}
use Rattle.lk_ast.specs.Rows.{row_value, rows_value}
use Rattle.lk_ast.specs.declared.table.Base.{Base}
use Rattle.lk_ast.specs.declared.table.Cell.{Cell}
use Rattle.lk_ast.specs.declared.table.Row.{Row}
use Rattle.lk_ast.specs.declared.value.Field.{Field}
use Rattle.lk_ast.specs.declared.value.Value.{Value}
use Rattle.lk_ast.specs.declared.value.Value.TheVariants as value
use Rattle.lk_operators.specs.Values.{fields_in, list_in}
use Rattle.lk_sem.specs.RowValues.{cells_in, each_row, row_in, row_of_cells, row_of_fields, rows_of_list, rows_in, with_cell, with_row}

abbrev fields_of : List Cell → List Field
fields_of cells = map {A = Cell} (λ cell. record { label = cell.label; value = value.Base cell.value }) cells

fields_back : (fs : List Field) → fields_in (value.Fields fs) ≡ Some fs
fields_back fs = simp (value.outs-Fields)

list_back : (values : List Value) → list_in (value.List values) ≡ Some values
list_back values = simp (value.outs-List)

cells_back : (cells : List Cell) → cells_in (fields_of cells) ≡ Some cells
cells_back [] = refl
cells_back (cell ∷ cells) = ap₂ (with_cell cell.label) (base_itself cell.value) (cells_back cells)

row_back : (row : Row) → row_in (row_value row) ≡ Some row
row_back row = ap row_of_fields (fields_back (fields_of row.cells)) ∙ ap row_of_cells (cells_back row.cells)

each_back : (rows : List Row) → each_row (map row_value rows) ≡ Some rows
each_back [] = refl
each_back (row ∷ rows) = ap (λ o. with_row o (each_row (map row_value rows))) (row_back row) ∙ ap (with_row (Some row)) (each_back rows)

pub rows_back : (rows : List Row) → rows_in (rows_value rows ∷ []) ≡ Some rows
rows_back rows = ap rows_of_list (list_back (map row_value rows)) ∙ each_back rows

-- no function stands in an insertion's argument
pub plain_rows : (rows : List Row) → list_any holds_function (rows_value rows ∷ []) ≡ false
plain_rows rows = ap (λ b. b || false) (rows_plain rows)
