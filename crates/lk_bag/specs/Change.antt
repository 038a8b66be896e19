-- What updates, deletions and insertions make of tables. Conditions and new values see the old row alone.
use Rattle.std.specs.Prelude.{ℕ, Bool, true, false, not, List, [], ◌∷◌, ◌++◌, Option, Some, None, map, find, bytes_eq, unwrap_or, if◌then◌else◌}
use Rattle.std.specs.List.{filter}
use Rattle.lk_ast.specs.Rows.{row_value}
use Rattle.lk_ast.specs.Tables.{Tables}
use Rattle.lk_ast.specs.declared.declaration.Program.{Program}
use Rattle.lk_ast.specs.declared.expression.ChangeExpr.{ChangeExpr, out-ChangeExpr}
use Rattle.lk_ast.specs.declared.expression.PartExpr.{PartExpr}
use Rattle.lk_ast.specs.declared.table.Base.{Base}
use Rattle.lk_ast.specs.declared.table.Cell.{Cell}
use Rattle.lk_ast.specs.declared.table.Row.{Row}
use Rattle.lk_bag.specs.Bag.{Gives, gives}
use Rattle.lk_locals.specs.Names.{Names, bind}
use Rattle.lk_operators.specs.Values.{base_in, bool_in}

-- one table's rows, all others as they are
abbrev pub with_rows : List ℕ → List Row → Tables → Tables
with_rows name rows tables other = if bytes_eq name other then rows else tables other

abbrev pub is_true : Option Bool → Bool
is_true (Some true) = true
is_true other = false

-- the value for a column, where it is set
abbrev pub set_value : Option PartExpr → (PartExpr → Base) → Base → Base
set_value None value old = old
set_value (Some part) value old = value part

abbrev pub sets_label : List ℕ → PartExpr → Bool
sets_label label part = bytes_eq part.label.text label

module _ (p : Program) (names : Names) where
  -- what an expression of a change gives for a row; it reads no table
  abbrev of_row : ChangeExpr → Row → Gives → Gives
  of_row change row body outer = body (bind (out-ChangeExpr change).name.text (row_value row) outer)

  -- whether the condition holds of a row
  abbrev pub is_met : ChangeExpr → Row → Bool
  is_met change row = is_true (bool_in (of_row change row (gives p (λ name. []) (out-ChangeExpr change).cond) names))

  -- what a column of a row is set to
  abbrev new_value : ChangeExpr → Row → Base → PartExpr → Base
  new_value change row old part = unwrap_or (base_in (of_row change row (gives p (λ name. []) part.expr) names)) old

  abbrev set_cell : ChangeExpr → Row → Cell → Cell
  set_cell change row cell = record { label = cell.label; value = set_value (find (sets_label cell.label) (out-ChangeExpr change).sets) (new_value change row cell.value) cell.value }

  abbrev pub updated : ChangeExpr → Row → Row
  updated change row = if is_met change row then record { cells = map (set_cell change row) row.cells } else row

  abbrev pub after_update : ChangeExpr → Tables → Tables
  after_update change tables = with_rows (out-ChangeExpr change).table.text (map (updated change) (tables (out-ChangeExpr change).table.text)) tables

  abbrev pub after_delete : ChangeExpr → Tables → Tables
  after_delete change tables = with_rows (out-ChangeExpr change).table.text (filter (λ row. not (is_met change row)) (tables (out-ChangeExpr change).table.text)) tables

abbrev pub after_insert : List ℕ → List Row → Tables → Tables
after_insert name rows tables = with_rows name (tables name ++ rows) tables
