-- The values of rows tell the rows, so rows whose values are shuffled are shuffled.
use Rattle.std.proofs.Common.{◌≡◌, refl, ◌∙◌, ap, ap₂, subst, List, [], ◌∷◌, map}
use Rattle.std.proofs.lemmas.List.Sorted.{IsPermutation-map}
use Rattle.std.specs.Prelude.{IsPermutation}
use Rattle.lk_ast.specs.Rows.{row_value}
use Rattle.lk_ast.specs.declared.table.Base.{Base}
use Rattle.lk_ast.specs.declared.table.Cell.{Cell}
use Rattle.lk_ast.specs.declared.table.Row.{Row}
use Rattle.lk_ast.specs.declared.value.Field.{Field}
use Rattle.lk_ast.specs.declared.value.FunValue.{FunValue}
use Rattle.lk_ast.specs.declared.value.Value.{Value, out-Value}
use Rattle.lk_ast.specs.declared.value.Value.TheOpen.{Value-F}
use Rattle.lk_ast.specs.declared.value.Value.TheVariants as value
use Rattle.lk_sql.specs.Operations.{zero_base}

abbrev base_level : Value-F Value Field FunValue → Base
base_level (Value-F.Base b) = b
base_level other = zero_base

abbrev cell_of : Field → Cell
cell_of f = record { label = f.label; value = base_level (out-Value f.value) }

abbrev row_level : Value-F Value Field FunValue → Row
row_level (Value-F.Fields fs) = record { cells = map cell_of fs }
row_level other = record { cells = [] }

-- the row of a record
abbrev row_of : Value → Row
row_of v = row_level (out-Value v)

abbrev fields_of : List Cell → List Field
fields_of cells = map {A = Cell} (λ cell. record { label = cell.label; value = value.Base cell.value }) cells

cells_back : (cells : List Cell) → map cell_of (fields_of cells) ≡ cells
cells_back [] = refl
cells_back (cell ∷ cells) = ap₂ (λ (b : Base) (cs : List Cell). record { label = cell.label; value = b } ∷ cs) (ap base_level (value.outs-Base cell.value)) (cells_back cells)

row_back : (r : Row) → row_of (row_value r) ≡ r
row_back r = ap row_level (value.outs-Fields (fields_of r.cells)) ∙ ap (λ (cells : List Cell). record { cells = cells }) (cells_back r.cells)

all_back : (rows : List Row) → map row_of (map row_value rows) ≡ rows
all_back [] = refl
all_back (r ∷ rows) = ap₂ (λ x xs. x ∷ xs) (row_back r) (all_back rows)

pub rows_back : (rows others : List Row) → IsPermutation (map row_value rows) (map row_value others) → IsPermutation rows others
rows_back rows others same =
    subst (λ xs. IsPermutation xs others) (all_back rows)
    (subst (IsPermutation (map row_of (map row_value rows))) (all_back others) (IsPermutation-map row_of (map row_value rows) (map row_value others) same))
