-- Which tables a scalar names.
use Rattle.std.specs.Prelude.{Bool, List}
use Rattle.lk_ast.specs.declared.table.TableDef.{TableDef}
use Rattle.lk_exec.specs.NamedTables.{out_level, scalar_level, select_level}
use Rattle.lk_sql.specs.declared.tree.Scalar.{Scalar}
use Rattle.lk_sql.specs.declared.tree.Scalar.TheFolds.{fold-Scalar}

module _ (defs : List TableDef) where
  -- each table that a scalar names is one of these
  unfoldable pub scalar_declared : Scalar → Bool
  scalar_declared = fold-Scalar Bool Bool Bool (scalar_level defs) (out_level defs) (select_level defs)
