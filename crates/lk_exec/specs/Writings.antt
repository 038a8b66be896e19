-- What writings make of a table.
use Rattle.std.specs.Prelude.{Bool, not, List, [], map}
use Rattle.std.specs.List.{filter}
use Rattle.lk_ast.specs.Tables.{Tables}
use Rattle.lk_ast.specs.declared.table.Base.{Base}
use Rattle.lk_ast.specs.declared.table.Cell.{Cell}
use Rattle.lk_ast.specs.declared.table.Row.{Row}
use Rattle.lk_sql.specs.Change.{changed, is_changed, set_to}
use Rattle.lk_sql.specs.declared.tree.Out.{Out}
use Rattle.lk_sql.specs.declared.tree.Scalar.{Scalar}

-- a change sees no table
abbrev pub no_tables : Tables
no_tables name = []

module _ (params : List Base) (cond : Scalar) where
  -- what an update makes of a row
  abbrev pub updated : List Out → Row → Row
  updated sets = changed no_tables params (record { cond = cond; sets = sets })

  -- whether a deletion leaves a row
  abbrev pub stays : Row → Bool
  stays row = not (is_changed no_tables params (record { cond = cond; sets = [] }) row)

  abbrev pub updated_rows : List Out → List Row → List Row
  updated_rows sets rows = map (updated sets) rows

  abbrev pub kept_rows : List Row → List Row
  kept_rows rows = filter stays rows

-- a cell of the row, with its new value if it is set
abbrev pub new_cell : List Base → List Out → Row → Cell → Cell
new_cell params sets row cell = record { label = cell.label; value = set_to no_tables params row sets cell.label cell.value }
