-- Tables in a map by their names.
use Rattle.std.specs.Prelude.{List, map, String, string_bytes}
use Rattle.std.specs.BTreeMap.{BTreeMap}
use Rattle.lk_ast.specs.declared.table.Row.{Row}
use Rattle.lk_ast.specs.declared.table.TableRows.{TableRows}

-- a name and its rows as a table
abbrev pub shown : {A : Type 0} → String A × List Row → TableRows
shown entry = record { name = string_bytes entry.0; rows = entry.1 }

-- the tables of a map, in byte order of their names
abbrev pub listed : {A : Type 0} → BTreeMap (String A) (List Row) → List TableRows
listed tables = map shown tables.entries
