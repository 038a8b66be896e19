-- The rows of a select, by the choices of rows of its generators.
use Rattle.std.specs.Prelude.{Bool, List, map}
use Rattle.std.specs.List.{filter}
use Rattle.lk_ast.specs.Tables.{Tables}
use Rattle.lk_ast.specs.declared.table.Base.{Base}
use Rattle.lk_ast.specs.declared.table.Row.{Row}
use Rattle.lk_sql.specs.Meaning.{Scope, cell, value}
use Rattle.lk_sql.specs.Operations.{truth}
use Rattle.lk_sql.specs.declared.tree.Out.{Out}
use Rattle.lk_sql.specs.declared.tree.Scalar.{Scalar}

module _ (tables : Tables) (params : List Base) where
  -- whether a condition holds for a choice
  abbrev pub meets : Scalar → Scope → Bool
  meets cond scope = truth (value tables params cond scope)

  -- the row of these columns for a choice
  abbrev pub row_for : List Out → Scope → Row
  row_for outs scope = record { cells = map (λ out. cell tables params out scope) outs }

  -- the rows for the choices that meet the condition
  abbrev pub rows_for : Scalar → List Out → List Scope → List Row
  rows_for cond outs scopes = map (row_for outs) (filter (meets cond) scopes)
