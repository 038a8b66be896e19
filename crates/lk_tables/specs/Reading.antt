-- Which rows a tables file has, and why a text is refused as one.
use Rattle.std.specs.Prelude.{◌≡◌, ◌≤◌, ℕ, List, [], ◌∷◌, length, Bool, true, false, ◌==◌, nat_lt, if◌then◌else◌, bytes_eq, Option, Some, None, option_map, option_and_then, unwrap_or}
use Rattle.std.specs.List.{list_any}
use Rattle.std.specs.Str.{is_utf8}
use Rattle.serde_json.specs.Data.{Data, Items, no_items, item, Members, no_members, member}
use Rattle.serde_json.specs.Events.{members_len}
use Rattle.serde_json.specs.Find.{get, as_number, as_i64, as_bool, as_str, as_array, as_object}
use Rattle.serde_json.specs.Read.{read}
use Rattle.lk_ast.specs.declared.table.Base.{Base}
use Rattle.lk_ast.specs.declared.table.Base.TheVariants as base
use Rattle.lk_ast.specs.declared.table.BaseKind.{BaseKind}
use Rattle.lk_ast.specs.declared.table.BaseKind.TheVariants as kind
use Rattle.lk_ast.specs.declared.table.Cell.{Cell}
use Rattle.lk_ast.specs.declared.table.Column.{Column}
use Rattle.lk_ast.specs.declared.table.Row.{Row}
use Rattle.lk_ast.specs.declared.table.TableDef.{TableDef}
use Rattle.lk_ast.specs.declared.table.TableRows.{TableRows}
use Rattle.lk_ast.specs.Limits.{most_rows}
use Rattle.lk_ast.specs.Tables.{all_fit}
use Rattle.lk_tables.specs.declared.error.TablesError.{TablesError}
use Rattle.lk_tables.specs.declared.error.TablesError.TheVariants.{TooLong, NotJson, UnknownTable, BadRows, TooManyRows}
use Rattle.lk_tables.specs.Choices.{first_some, all_some}

-- how many bytes a tables file may have
abbrev pub max_bytes : ℕ
max_bytes = 16_777_216

-- the elements of an array in their order
abbrev pub elements : Items → List Data
elements no_items = []
elements (item d ds) = d ∷ elements ds

-- the members of an object in byte order of their keys
abbrev pub entries : Members → List (List ℕ × Data)
entries no_members = []
entries (member key d members) = (key, d) ∷ entries members

-- the value as one of a column of that kind
abbrev pub base_of : BaseKind → Data → Option Base
base_of kind.Int d = option_map base.Int (option_and_then as_i64 (as_number d))
base_of kind.Bool d = option_map base.Bool (as_bool d)
base_of kind.Text d = option_map base.Text (as_str d)

-- what an object has at a column's label, as the cell of that column
abbrev pub cell_of : Data → Column → Option Cell
cell_of d column = option_map (λ value. record { label = column.label; value = value }) (option_and_then (base_of column.kind) (get column.label d))

-- an object with so many members
abbrev pub has_members : ℕ → Data → Bool
has_members n d = unwrap_or (option_map (λ members. members_len members == n) (as_object d)) false

-- an object with exactly these columns, as a row whose cells stand in their order
abbrev pub row_of : List Column → Data → Option Row
row_of columns d = if has_members (length columns) d then option_map (λ cells. record { cells = cells }) (all_some (cell_of d) columns) else None

-- an array of such objects, as rows
abbrev pub rows_of : List Column → Data → Option (List Row)
rows_of columns d = option_and_then (λ items. all_some (row_of columns) (elements items)) (as_array d)

-- why these aren't a table's rows: they are none, or too many
abbrev pub rows_refusal : Option (List Row) → Option TablesError
rows_refusal None = Some BadRows
rows_refusal (Some rows) = if nat_lt most_rows (length rows) then Some TooManyRows else None

-- a table of that name
abbrev pub is_named : List ℕ → TableDef → Bool
is_named name table = bytes_eq table.name name

-- why a value isn't the rows of the table, if that is its name
abbrev pub table_refusal : List ℕ → Data → TableDef → Option TablesError
table_refusal name d table = if is_named name table then rows_refusal (rows_of table.columns d) else None

-- why a member isn't a table's rows
abbrev pub member_refusal : List TableDef → List ℕ × Data → Option TablesError
member_refusal tables entry = if list_any (is_named entry.0) tables then first_some (table_refusal entry.0 entry.1) tables else Some UnknownTable

-- the first refusal of an object's members, in byte order of their keys
abbrev pub object_refusal : List TableDef → Data → Option TablesError
object_refusal tables d = option_and_then (λ members. first_some (member_refusal tables) (entries members)) (as_object d)

-- the value, if it is an object
abbrev pub if_object : Data → Option Data
if_object d = option_map (λ members. d) (as_object d)

-- the object that a text is
abbrev pub object_in : List ℕ → Option Data
object_in text = option_and_then if_object (if is_utf8 text then read text else None)

-- why a text isn't a tables file: it is too long, no object, or has a member that isn't a table's rows
abbrev pub refusal : List TableDef → List ℕ → Option TablesError
refusal tables text = if nat_lt max_bytes (length text) then Some TooLong else unwrap_or (option_map (object_refusal tables) (object_in text)) (Some NotJson)

-- the rows that an object has for a table; a table that is missing is empty
abbrev pub rows_for : Data → TableDef → Option (List Row)
rows_for d table = unwrap_or (option_map (rows_of table.columns) (get table.name d)) (Some [])

-- a table's name with the rows that an object has for it
abbrev pub table_of : Data → TableDef → Option TableRows
table_of d table = option_map (λ rows. record { name = table.name; rows = rows }) (rows_for d table)

-- each table with the rows that a text has for it
abbrev pub tables_in : List TableDef → List ℕ → Option (List TableRows)
tables_in tables text = option_and_then (λ d. all_some (table_of d) tables) (object_in text)

-- the table's name, with at most so many rows as a table may have, each of which the table may hold
abbrev pub AreRowsOf : TableDef → TableRows → Type 0
AreRowsOf table read = (read.name ≡ table.name) × (all_fit table read.rows ≡ true) × (length read.rows ≤ most_rows)
