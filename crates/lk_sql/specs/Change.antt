-- What an update or a deletion does (ISO/IEC 9075-2:2016: delete statement: searched, 14.9; update statement: searched, 14.14): about
-- which rows of its table it is, and what the columns of such a row become. All of it is said of the old row, that of generator 1.
use Rattle.std.specs.Prelude.{ℕ, Bool, List, [], ◌∷◌, map, bytes_eq, if◌then◌else◌}
use Rattle.lk_ast.specs.Tables.{Tables}
use Rattle.lk_ast.specs.declared.table.Base.{Base}
use Rattle.lk_ast.specs.declared.table.Cell.{Cell}
use Rattle.lk_ast.specs.declared.table.Row.{Row}
use Rattle.lk_sql.specs.Meaning.{no_rows, value, with_row}
use Rattle.lk_sql.specs.Operations.{truth}
use Rattle.lk_sql.specs.declared.tree.Change.{Change}
use Rattle.lk_sql.specs.declared.tree.Out.{Out}
use Rattle.lk_sql.specs.declared.tree.Scalar.{Scalar}

module _ (tables : Tables) (params : List Base) where
  -- what a scalar gives for a row
  abbrev pub value_for : Row → Scalar → Base
  value_for row s = value tables params s (with_row 1 row no_rows)

  -- what the first of these sets with that label makes of its column, and where there is none, the old value
  abbrev pub set_to : Row → List Out → List ℕ → Base → Base
  set_to row [] label old = old
  set_to row (set ∷ sets) label old = if bytes_eq set.label label then value_for row set.scalar else set_to row sets label old

  module _ (change : Change) where
    -- whether the row changes
    abbrev pub is_changed : Row → Bool
    is_changed row = truth (value_for row change.cond)

    abbrev set_cell : Row → Cell → Cell
    set_cell row cell = record { label = cell.label; value = set_to row change.sets cell.label cell.value }

    abbrev pub changed : Row → Row
    changed row = if is_changed row then record { cells = map (set_cell row) row.cells } else row
