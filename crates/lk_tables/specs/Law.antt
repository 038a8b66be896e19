-- What is printed of tables is read back.
use Rattle.std.specs.Prelude.{◌≡◌, ◌≤◌, ℕ, List, [], ◌∷◌, map, length, Bool, true, ◌&&◌, not, bytes_eq, Some, None, IsPermutation}
use Rattle.std.specs.List.{AllZip, list_all, list_any}
use Rattle.lk_ast.specs.declared.table.TableDef.{TableDef}
use Rattle.lk_ast.specs.declared.table.TableRows.{TableRows}
use Rattle.lk_tables.specs.Reading.{max_bytes, refusal, tables_in, AreRowsOf}

-- each name is there once
abbrev pub are_distinct : List (List ℕ) → Bool
are_distinct [] = true
are_distinct (name ∷ names) = not (list_any (bytes_eq name) names) && are_distinct names

-- the labels of the columns are there once
abbrev pub has_distinct_labels : TableDef → Bool
has_distinct_labels table = are_distinct (map (λ column. column.label) table.columns)

-- the names of the tables are there once, and in each the labels of its columns
abbrev pub are_declared : List TableDef → Bool
are_declared tables = are_distinct (map (λ table. table.name) tables) && list_all has_distinct_labels tables

-- the same rows with the same repeats, under the same name
abbrev pub IsSameBag : TableRows → TableRows → Type 0
IsSameBag printed read = (read.name ≡ printed.name) × IsPermutation printed.rows read.rows

-- the text isn't refused as a file of these tables, and has the same rows for each
abbrev pub HasSameTables : List TableDef → List TableRows → List ℕ → Type 0
HasSameTables tables printed text = (refusal tables text ≡ None) × ((read : List TableRows) × (tables_in tables text ≡ Some read) × AllZip IsSameBag printed read)

-- a text of at most so many bytes as a tables file may have is read back as the tables that it was printed of, by whoever declares them
abbrev pub ReadsBack : List TableRows → List ℕ → Type 0
ReadsBack printed text =
    (tables : List TableDef) → are_declared tables ≡ true → AllZip AreRowsOf tables printed → length text ≤ max_bytes → HasSameTables tables printed text
