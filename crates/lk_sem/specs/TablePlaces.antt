-- A map that has the places of tables by their names.
use Rattle.std.specs.Prelude.{◌≡◌, ℕ, Bool, List, Option, String, bytes_eq, find, option_and_then, slice_get}
use Rattle.std.specs.BTreeMap.{BTreeMap, get_by_text}
use Rattle.lk_ast.specs.declared.table.TableDef.{TableDef}

abbrev pub is_table : List ℕ → TableDef → Bool
is_table name def = bytes_eq def.name name

-- the table at this place, if there is a place
abbrev pub table_there : List TableDef → Option ℕ → Option TableDef
table_there defs place = option_and_then (slice_get defs) place

-- the map has the place of the first table of each name
abbrev pub FindsPlaces : {A : Type 0} → BTreeMap (String A) ℕ → List TableDef → Type 0
FindsPlaces places defs = (name : List ℕ) → table_there defs (get_by_text places name) ≡ find (is_table name) defs
