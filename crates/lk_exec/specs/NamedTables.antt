-- Which tables SQL names, those inside of EXISTS among them.
use Rattle.std.specs.Prelude.{ℕ, Bool, true, ◌&&◌, List, bytes_eq}
use Rattle.std.specs.List.{list_all, list_any}
use Rattle.lk_ast.specs.declared.table.TableDef.{TableDef}
use Rattle.lk_sql.specs.declared.tree.FromItem.{FromItem}
use Rattle.lk_sql.specs.declared.tree.Scalar.TheOpen.{Scalar-F, Out-F, Select-F}
use Rattle.lk_sql.specs.declared.tree.Select.{Select, fold-Select}
use Rattle.lk_sql.specs.declared.tree.Sql.{Sql}

module _ (defs : List TableDef) where
  -- one of the definitions has that name
  abbrev pub is_declared : List ℕ → Bool
  is_declared name = list_any (λ (def : TableDef). bytes_eq def.name name) defs

  abbrev pub scalar_level : Scalar-F Bool Bool Bool → Bool
  scalar_level (Scalar-F.Lit b) = true
  scalar_level (Scalar-F.Param k) = true
  scalar_level (Scalar-F.Column n label) = true
  scalar_level (Scalar-F.Op o operands) = list_all (λ declared. declared) operands
  scalar_level (Scalar-F.Case c a b) = c && (a && b)
  scalar_level (Scalar-F.Exists selects) = list_all (λ declared. declared) selects

  abbrev pub out_level : Out-F Bool Bool Bool → Bool
  out_level out = out.scalar

  abbrev pub select_level : Select-F Bool Bool Bool → Bool
  select_level select = list_all (λ (from : FromItem). is_declared from.table) select.froms && (select.cond && list_all (λ declared. declared) select.outs)

  -- each table that is named there is one of these
  unfoldable pub names_declared : Select → Bool
  names_declared = fold-Select Bool Bool Bool scalar_level out_level select_level

  abbrev pub are_declared : Sql → Bool
  are_declared sql = list_all names_declared sql.selects
