-- The lines of a report that several commands print: of events, of ends, and of tables. Values and tables are JSON texts.
use Rattle.std.specs.Prelude.{◌≡◌, ℕ, List, [], ◌∷◌, ◌++◌, codes, decimal}
use Rattle.lk_ast.specs.JsonText.{value_text_of}
use Rattle.lk_ast.specs.Rows.{rows_value}
use Rattle.lk_ast.specs.declared.event.Event.{Event}
use Rattle.lk_ast.specs.declared.event.Event.TheVariants.{Print, Enter, Leave, Read, Write}
use Rattle.lk_ast.specs.declared.event.Trap.{Trap}
use Rattle.lk_ast.specs.declared.event.Trap.TheVariants.{Divide, Head, Tail}
use Rattle.lk_ast.specs.declared.table.TableRows.{TableRows}
use Rattle.lk_ast.specs.declared.value.Value.{Value}
use Rattle.lk_ast.specs.declared.value.Value.TheVariants as value
use Rattle.lk_operators.specs.Values.{text}
use Rattle.lk_tables.specs.Printing.{IsPrinted}
use Rattle.serde_json.specs.Data.{Data}
use Rattle.serde_json.specs.Written.{compact_text}

-- words with a space between them, and a line feed
abbrev pub line : List (List ℕ) → List ℕ
line [] = codes "\n"
line (word ∷ []) = word ++ codes "\n"
line (word ∷ words) = word ++ (codes " " ++ line words)

-- ---- events

-- the place of a query or of a change of tables in the program's text
abbrev pub site_word : ℕ → List ℕ
site_word site = codes "@" ++ decimal site

-- `enter`, `leave`, `print TEXT`, `read @SITE ARGS ANSWER` and `write @SITE ARGS`
abbrev pub event_line : Event → List ℕ
event_line (Print bytes) = line (codes "print" ∷ value_text_of (text bytes) ∷ [])
event_line Enter = line (codes "enter" ∷ [])
event_line Leave = line (codes "leave" ∷ [])
event_line (Read e) = line (codes "read" ∷ site_word e.site ∷ value_text_of (value.List e.args) ∷ value_text_of (rows_value e.answer) ∷ [])
event_line (Write e) = line (codes "write" ∷ site_word e.site ∷ value_text_of (value.List e.args) ∷ [])

-- the values of an event that its line shows
abbrev pub args_of : Event → List Value
args_of (Read e) = e.args
args_of (Write e) = e.args
args_of other = []

-- ---- ends

-- `done NUMBER VALUE`
abbrev pub done_line : ℕ → Value → List ℕ
done_line number v = line (codes "done" ∷ decimal number ∷ value_text_of v ∷ [])

abbrev pub trap_name : Trap → List ℕ
trap_name Divide = codes "divide"
trap_name Head = codes "head"
trap_name Tail = codes "tail"

-- `trap NUMBER KIND`
abbrev pub trap_line : ℕ → Trap → List ℕ
trap_line number trap = line (codes "trap" ∷ decimal number ∷ trap_name trap ∷ [])

-- ---- tables

-- the text of a tables file with all of these tables
abbrev pub IsTablesText : List TableRows → List ℕ → Type 0
IsTablesText tables text = (file : Data) × IsPrinted tables file × (text ≡ compact_text file)

-- `tables OBJECT` for the declared tables, of which there is at least one
abbrev pub IsTablesLine : List TableRows → List ℕ → Type 0
IsTablesLine [] text = text ≡ []
IsTablesLine (table ∷ tables) text = (object : List ℕ) × IsTablesText (table ∷ tables) object × (text ≡ line (codes "tables" ∷ object ∷ []))
