-- Rows in values.
use Rattle.std.specs.Prelude.{ℕ, List, [], ◌∷◌, Option, Some, None}
use Rattle.lk_ast.specs.declared.table.Base.{Base}
use Rattle.lk_ast.specs.declared.table.Cell.{Cell}
use Rattle.lk_ast.specs.declared.table.Row.{Row}
use Rattle.lk_ast.specs.declared.value.Field.{Field}
use Rattle.lk_ast.specs.declared.value.Value.{Value}
use Rattle.lk_operators.specs.Values.{base_in, fields_in, list_in}

abbrev pub with_cell : List ℕ → Option Base → Option (List Cell) → Option (List Cell)
with_cell label (Some b) (Some cells) = Some (record { label = label; value = b } ∷ cells)
with_cell label _ _ = None

-- the fields as cells, if each holds what a column can hold
abbrev pub cells_in : List Field → Option (List Cell)
cells_in [] = Some []
cells_in (f ∷ fs) = with_cell f.label (base_in f.value) (cells_in fs)

abbrev pub row_of_cells : Option (List Cell) → Option Row
row_of_cells (Some cells) = Some (record { cells = cells })
row_of_cells None = None

abbrev pub row_of_fields : Option (List Field) → Option Row
row_of_fields (Some fs) = row_of_cells (cells_in fs)
row_of_fields None = None

-- the row that a record stands for
abbrev pub row_in : Value → Option Row
row_in v = row_of_fields (fields_in v)

abbrev pub with_row : Option Row → Option (List Row) → Option (List Row)
with_row (Some row) (Some rows) = Some (row ∷ rows)
with_row _ _ = None

abbrev pub each_row : List Value → Option (List Row)
each_row [] = Some []
each_row (v ∷ values) = with_row (row_in v) (each_row values)

abbrev pub rows_of_list : Option (List Value) → Option (List Row)
rows_of_list (Some values) = each_row values
rows_of_list None = None

-- the rows of an insertion, whose one argument is a list of records
abbrev pub rows_in : List Value → Option (List Row)
rows_in (v ∷ []) = rows_of_list (list_in v)
rows_in _ = None
