-- Tables that a query is answered over.
use Rattle.std.specs.Prelude.{◌≡◌, ℕ, true, List, Option, IfSome, IsPermutation, bytes_eq, find}
use Rattle.lk_ast.specs.Tables.{Tables, all_fit}
use Rattle.lk_ast.specs.declared.table.TableDef.{TableDef}

-- the first of the definitions with that name
abbrev pub def_of : List TableDef → List ℕ → Option TableDef
def_of defs name = find (λ (def : TableDef). bytes_eq def.name name) defs

-- Tables whose rows fit these definitions, of two with one name the first. Where tables are told they are these, as bags of rows.
pub record IsListing (defs : List TableDef) (told : Option Tables) (listed : Tables) : Type 0 where
  pub fit : (name : List ℕ) → IfSome (def_of defs name) (λ def. all_fit def (listed name) ≡ true)
  pub same : IfSome told (λ tables. (name : List ℕ) → IsPermutation (tables name) (listed name))
