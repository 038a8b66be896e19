-- What is written of tables.
use Rattle.std.specs.Prelude.{◌≡◌, List, map}
use Rattle.std.specs.List.{AllZip}
use Rattle.std.specs.List.Sorted.{IsPermutation, IsSorted}
use Rattle.std.specs.Ordering.{nat_cmp}
use Rattle.std.specs.Cmp.Lexicographic.{slice_cmp}
use Rattle.serde_json.specs.Data.{Data, array, object}
use Rattle.serde_json.specs.View.{items_of}
use Rattle.serde_json.specs.Written.{compact_text}
use Rattle.lk_ast.specs.JsonText.{Entry, base_data, members_of}
use Rattle.lk_ast.specs.declared.table.Cell.{Cell}
use Rattle.lk_ast.specs.declared.table.Row.{Row}
use Rattle.lk_ast.specs.declared.table.TableRows.{TableRows}

-- a cell as a member
abbrev pub cell_entry : Cell → Entry
cell_entry cell = (cell.label, base_data cell.value)

-- a row as an object
abbrev pub row_data : Row → Data
row_data row = object (members_of (map cell_entry row.cells))

-- the same values, repeats among them, with their texts in byte order
abbrev pub IsSortedFrom : List Data → List Data → Type 0
IsSortedFrom rows sorted = IsPermutation rows sorted × IsSorted (slice_cmp nat_cmp) (map compact_text sorted)

-- a table's name, and its rows as an array in byte order of their texts
abbrev pub IsTableEntry : TableRows → Entry → Type 0
IsTableEntry table entry = (sorted : List Data) × IsSortedFrom (map row_data table.rows) sorted × (entry ≡ (table.name, array (items_of sorted)))

-- the object of all these tables; of two with one name the later counts
abbrev pub IsPrinted : List TableRows → Data → Type 0
IsPrinted tables d = (entries : List Entry) × AllZip IsTableEntry tables entries × (d ≡ object (members_of entries))
