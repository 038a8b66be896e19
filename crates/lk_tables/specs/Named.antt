-- Tables by their names, as code has them.
use Rattle.std.specs.Prelude.{◌≡◌, ℕ, List, [], ◌∷◌, ◌++◌, Option, Some, None, filter, if◌then◌else◌, map, option_map, unwrap_or}
use Rattle.std.specs.Borrow.{Bor}
use Rattle.std.specs.BTreeMap.{BTreeMap, get_by}
use Rattle.std.specs.Cmp.Lexicographic.{slice_cmp}
use Rattle.std.specs.Ordering.{nat_cmp}
use Rattle.serde_json.specs.Data.{Data}
use Rattle.lk_ast.specs.declared.table.TableDef.{TableDef}
use Rattle.lk_tables.specs.Reading.{is_named, rows_of, rows_refusal}
use Rattle.lk_tables.specs.declared.error.TablesError.{TablesError}

-- tables by their names, those of one name in their order
abbrev pub Named : Type 0
Named = BTreeMap (Bor (List ℕ)) (List (Bor TableDef))

-- the tables behind references
abbrev pub shown : List (Bor TableDef) → List TableDef
shown tables = map (λ table. table.now) tables

-- the tables of a name, if the map has the name
abbrev pub tables_at : Named → List ℕ → Option (List TableDef)
tables_at named name = option_map shown (get_by (λ key. slice_cmp nat_cmp name key.now) named)

-- these tables, if there are any
abbrev pub if_any : List TableDef → Option (List TableDef)
if_any [] = None
if_any (table ∷ tables) = Some (table ∷ tables)

-- the map has the names of these tables, and the tables of each
abbrev pub FindsNamed : Named → List TableDef → Type 0
FindsNamed named tables = (name : List ℕ) → tables_at named name ≡ if_any (filter (is_named name) tables)

-- one more table stands behind those of its name
abbrev pub HasPut : TableDef → Named → Named → Type 0
HasPut table old new = (name : List ℕ) → tables_at new name ≡ (if is_named name table then Some (unwrap_or (tables_at old name) [] ++ table ∷ []) else tables_at old name)

-- why a value isn't the rows of a table
abbrev pub own_refusal : Data → TableDef → Option TablesError
own_refusal d table = rows_refusal (rows_of table.columns d)
