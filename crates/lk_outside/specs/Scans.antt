-- The rows of tables as scans give them: in some order, and fitting the definitions of the tables.
use Rattle.std.specs.Prelude.{◌≡◌, ◌⊎◌, true, List, [], ◌∷◌, Option, IfSome, IsPermutation}
use Rattle.lk_ast.specs.Tables.{Tables, all_fit}
use Rattle.lk_ast.specs.declared.table.Row.{Row}
use Rattle.lk_ast.specs.declared.table.TableDef.{TableDef}
use Rattle.lk_ast.specs.declared.table.TableRows.{TableRows}
use Rattle.lk_outside.specs.Store.{HasForeignRow}

-- the rows of the table of that definition, where tables are told, in some order; they fit it
pub record IsListed (told : Option Tables) (def : TableDef) (rows : List Row) : Type 0 where
  pub fit : all_fit def rows ≡ true
  pub same : IfSome told (λ tables. IsPermutation (tables def.name) rows)

-- under the name of the definition, with the rows of its table
pub record IsScanned (told : Option Tables) (def : TableDef) (table : TableRows) : Type 0 where
  pub name : table.name ≡ def.name
  pub listed : IsListed told def table.rows

-- tables are told, and one of these holds a row of other columns
abbrev pub HaveForeignRow : Option Tables → List TableDef → Type 0
HaveForeignRow told [] = ⊥
HaveForeignRow told (def ∷ defs) = HasForeignRow told def ⊎ HaveForeignRow told defs

-- where tables are told, the rows of this one fit it
abbrev pub FitsTold : Option Tables → TableDef → Type 0
FitsTold told def = IfSome told (λ tables. all_fit def (tables def.name) ≡ true)

-- the same of each of these
abbrev pub FitAll : Option Tables → List TableDef → Type 0
FitAll told [] = Unit {0}
FitAll told (def ∷ defs) = FitsTold told def × FitAll told defs
