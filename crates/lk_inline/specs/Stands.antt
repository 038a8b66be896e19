-- When what a part gives stands for a value of a query: a base for its base, a row for its record, and rows for the list of their
-- records. No record has a label twice.
use Rattle.std.specs.Prelude.{◌≡◌, ℕ, true, List, [], ◌∷◌, map}
use Rattle.lk_ast.specs.Rows.{row_value, rows_value}
use Rattle.lk_ast.specs.declared.table.Cell.{Cell}
use Rattle.lk_ast.specs.declared.table.Row.{Row}
use Rattle.lk_ast.specs.declared.value.Value.{Value}
use Rattle.lk_ast.specs.declared.value.Value.TheVariants as value
use Rattle.lk_ground_types.specs.Shapes.{are_rows, is_base, is_flat_row}
use Rattle.lk_query.specs.Given.{Given}
use Rattle.lk_types.specs.Each.{Each, OneOf}
use Rattle.lk_types.specs.Rows.{Label}
use Rattle.lk_types.specs.declared.ground.Ground.{Ground}

-- none of these labels is there twice
abbrev pub AreDistinct : List Label → Type 0
AreDistinct [] = Unit {0}
AreDistinct (l ∷ ls) = (OneOf (λ other. other ≡ l) ls → ⊥) × AreDistinct ls

abbrev pub row_labels : Row → List Label
row_labels row = map (λ (cell : Cell). cell.label) row.cells

abbrev pub IsRecord : Row → Type 0
IsRecord row = AreDistinct (row_labels row)

-- at this type
pub record Stands (t : Ground) (v : Value) (g : Given) : Type 0 where
  pub base : is_base t ≡ true → v ≡ value.Base g.base
  pub row : is_flat_row t ≡ true → v ≡ row_value g.row
  pub rows : are_rows t ≡ true → v ≡ rows_value g.list
  pub record_of : is_flat_row t ≡ true → IsRecord g.row
  pub records_of : are_rows t ≡ true → Each IsRecord g.list
