-- What an inlined change makes of a row: each column that is set gets what its part gives, where the condition holds. Conditions and
-- new values see the old row alone, and no table.
use Rattle.std.specs.Prelude.{◌≡◌, ℕ, Bool, true, false, List, [], ◌∷◌, map, bytes_eq, if◌then◌else◌}
use Rattle.std.specs.List.{list_any}
use Rattle.lk_ast.specs.declared.table.Base.{Base}
use Rattle.lk_ast.specs.declared.table.Cell.{Cell}
use Rattle.lk_ast.specs.declared.table.Row.{Row}
use Rattle.lk_sql.specs.Operations.{truth}
use Rattle.lk_query.specs.Captured.{change_values}
use Rattle.lk_query.specs.Given.{Values, cell_with, gives}
use Rattle.lk_query.specs.declared.part.Labelled.{Labelled}
use Rattle.lk_query.specs.declared.part.Part.{Part}
use Rattle.lk_query.specs.declared.part.Part.TheVariants as part
use Rattle.lk_query.specs.declared.query.InlinedChange.{InlinedChange}

-- whether a part reads a table
abbrev pub reads_table : Part → Bool
reads_table (part.Table table labels) = true
reads_table x = false

abbrev pub ReadNoTable : List Part → Type 0
ReadNoTable parts = list_any reads_table parts ≡ false

-- what a part gives where no table has rows
abbrev pub given_alone : List Part → ℕ → Values → Base
given_alone parts n values = (gives (λ name. []) parts n values).base

-- what the first of these parts with that label gives, and where there is none, the old value
abbrev pub set_to : List Part → Values → List Labelled → List ℕ → Base → Base
set_to parts values [] label old = old
set_to parts values (item ∷ items) label old = if bytes_eq item.label label then given_alone parts item.part values else set_to parts values items label old

module _ (change : InlinedChange) (params : List Base) where
  abbrev values_at : Row → Values
  values_at row = change_values row change.captured params

  -- whether the row changes
  abbrev pub is_changed : Row → Bool
  is_changed row = truth (given_alone change.parts change.cond (values_at row))

  abbrev set_cell : Row → Cell → Cell
  set_cell row cell = cell_with cell.label (set_to change.parts (values_at row) change.sets cell.label cell.value)

  abbrev pub changed : Row → Row
  changed row = if is_changed row then record { cells = map (set_cell row) row.cells } else row
