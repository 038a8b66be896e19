-- The tables of a program by their names, as code has them.
use Rattle.std.specs.Prelude.{◌≡◌, ℕ, Bool, List, String, bytes_eq, find}
use Rattle.std.specs.BTreeMap.{BTreeMap, get_by_text}
use Rattle.lk_ast.specs.declared.table.TableDef.{TableDef}
use Rattle.lk_types.specs.Rows.{Label}

abbrev pub is_table : Label → TableDef → Bool
is_table x def = bytes_eq def.name x

-- the map has the first table of each name
abbrev pub FindsTables : {A : Type 0} → BTreeMap (String A) TableDef → List TableDef → Type 0
FindsTables map defs = (x : Label) → get_by_text map x ≡ find (is_table x) defs
