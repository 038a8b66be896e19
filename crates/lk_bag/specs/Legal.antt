-- Legal histories. A table is a bag of rows. Each reading, a query or a table, answers what it gives over the tables as they are
-- then, in some order, or sorted by its keys; each change makes of them what its text says, and no insertion leaves too many rows
-- in a table. There is a value for each name that is captured.
use Rattle.std.specs.Prelude.{◌≡◌, ℕ, ◌≤◌, Bool, true, false, ◌||◌, ◌&&◌, List, [], ◌∷◌, Option, Some, None, find, length, map, bytes_eq, IsPermutation, if◌then◌else◌}
use Rattle.std.specs.Ordering.{is_lt, is_gt, is_eq}
use Rattle.std.specs.declared.cmp.Ordering.{Ordering}
use Rattle.std.specs.declared.cmp.Ordering.TheVariants.{Equal}
use Rattle.lk_ast.specs.BaseOrder.{base_cmp}
use Rattle.lk_ast.specs.Layers.{Layer, layer}
use Rattle.lk_ast.specs.Limits.{most_rows}
use Rattle.lk_ast.specs.Rows.{row_value, rows_value}
use Rattle.lk_ast.specs.Tables.{Tables}
use Rattle.lk_ast.specs.declared.declaration.Program.{Program}
use Rattle.lk_ast.specs.declared.event.Event.{Event}
use Rattle.lk_ast.specs.declared.event.Event.TheVariants.{Print, Enter, Leave, Read, Write}
use Rattle.lk_ast.specs.declared.event.ReadEvent.{ReadEvent}
use Rattle.lk_ast.specs.declared.event.WriteEvent.{WriteEvent}
use Rattle.lk_ast.specs.declared.expression.ChangeExpr.{ChangeExpr}
use Rattle.lk_ast.specs.declared.expression.Expr.{Expr}
use Rattle.lk_ast.specs.declared.expression.Node.TheOpen.{Node-F}
use Rattle.lk_ast.specs.declared.expression.SortKey.{SortKey}
use Rattle.lk_ast.specs.declared.place.Word.{Word}
use Rattle.lk_ast.specs.declared.table.Cell.{Cell}
use Rattle.lk_ast.specs.declared.table.Row.{Row}
use Rattle.lk_ast.specs.declared.value.Value.{Value}
use Rattle.lk_bag.specs.Bag.{gives, items}
use Rattle.lk_bag.specs.Blocks.{block_at}
use Rattle.lk_bag.specs.Change.{after_delete, after_insert, after_update}
use Rattle.lk_index.specs.Free.{captured_change, captured_query}
use Rattle.lk_locals.specs.Names.{Names, bind_each}
use Rattle.lk_locals.specs.Names as locals
use Rattle.lk_sort.specs.Sorted as sort

-- the same tables, as bags of rows
abbrev pub AreSame : Tables → Tables → Type 0
AreSame tables others = (name : List ℕ) → IsPermutation (tables name) (others name)

-- ---- what is captured

-- the names that a query, an update or a deletion captures; a reading of a table and an insertion capture none
abbrev pub captured_by : Layer → List (List ℕ)
captured_by (Node-F.Query keys e) = captured_query e
captured_by (Node-F.Update change) = captured_change change
captured_by (Node-F.Delete change) = captured_change change
captured_by other = []

abbrev pub captured_in : Expr → List (List ℕ)
captured_in block = captured_by (layer block)

-- these stand for the values that it captured
abbrev pub names_in : Expr → List Value → Names
names_in block args = bind_each locals.no_names (captured_in block) args

-- there is a value for each name that is captured
abbrev pub AreAllCaptured : Expr → List Value → Type 0
AreAllCaptured block args = length args ≡ length (captured_in block)

-- ---- readings

-- whether what begins there reads tables: a query, or a reading of a table
abbrev pub reads_tables : Layer → Bool
reads_tables (Node-F.Query keys e) = true
reads_tables (Node-F.Table t) = true
reads_tables other = false

module _ (p : Program) where
  -- what a query gives, or a reading of a table, as records
  abbrev pub bag_by : Tables → Expr → Layer → List Value → List Value
  bag_by tables block (Node-F.Query keys e) args = items (gives p tables e (names_in block args))
  bag_by tables block (Node-F.Table t) args = map row_value (tables t.text)
  bag_by tables block other args = []

  abbrev pub bag : Tables → Expr → List Value → List Value
  bag tables block args = bag_by tables block (layer block) args

-- the keys by which the rows of a query stand
abbrev pub keys_at : Layer → List SortKey
keys_at (Node-F.Query keys e) = keys
keys_at other = []

abbrev pub has_label : List ℕ → Cell → Bool
has_label label cell = bytes_eq cell.label label

abbrev pub compared : Option Cell → Option Cell → Ordering
compared (Some c) (Some d) = base_cmp c.value d.value
compared c d = Equal

abbrev pub at_key : SortKey → Row → Option Cell
at_key key row = find (has_label key.label.text) row.cells

abbrev pub goes_before : Bool → Ordering → Bool
goes_before true order = is_gt order
goes_before false order = is_lt order

-- whether the first row may stand before the second: by the first of the keys at which they differ, in falling order where the
-- key says so
abbrev pub may_stand_before : List SortKey → Row → Row → Bool
may_stand_before [] r s = true
may_stand_before (key ∷ keys) r s = goes_before key.desc (compared (at_key key r) (at_key key s)) || (is_eq (compared (at_key key r) (at_key key s)) && may_stand_before keys r s)

-- each row may stand before the next
abbrev pub AreSorted : List SortKey → List Row → Type 0
AreSorted keys = sort.AreSorted (may_stand_before keys)

-- the bag over tables whose rows are listed so, in some order, sorted by the keys
abbrev pub IsAnsweredOver : Program → Tables → Expr → List Value → List Row → Type 0
IsAnsweredOver p listed block args answer = IsPermutation (bag p listed block args) (map row_value answer) × AreSorted (keys_at (layer block)) answer

-- the bag over the tables, whose rows are listed in some order
abbrev pub IsAnswer : Program → Tables → Expr → List Value → List Row → Type 0
IsAnswer p tables block args answer = (listed : Tables) × AreSame tables listed × IsPermutation (bag p listed block args) (map row_value answer) × AreSorted (keys_at (layer block)) answer

-- ---- histories

-- the events lead from these tables to those
pub data IsLegal (p : Program) : Tables → List Event → Tables → Type 0 where
  done : {tables others : Tables} → AreSame tables others → IsLegal p tables [] others
  print : {tables others : Tables} {bytes : List ℕ} {events : List Event} → IsLegal p tables events others → IsLegal p tables (Print bytes ∷ events) others
  enter : {tables others : Tables} {events : List Event} → IsLegal p tables events others → IsLegal p tables (Enter ∷ events) others
  leave : {tables others : Tables} {events : List Event} → IsLegal p tables events others → IsLegal p tables (Leave ∷ events) others
  read : {tables others : Tables} {e : ReadEvent} {events : List Event} (block : Expr)
      → block_at p e.site ≡ Some block → reads_tables (layer block) ≡ true → AreAllCaptured block e.args → IsAnswer p tables block e.args e.answer
      → IsLegal p tables events others → IsLegal p tables (Read e ∷ events) others
  insert : {tables others : Tables} {e : WriteEvent} {events : List Event} (block : Expr) (t : Word) (expr : Expr) (rows : List Row)
      → block_at p e.site ≡ Some block → layer block ≡ Node-F.Insert t expr → e.args ≡ rows_value rows ∷ []
      → length (after_insert t.text rows tables t.text) ≤ most_rows
      → IsLegal p (after_insert t.text rows tables) events others → IsLegal p tables (Write e ∷ events) others
  update : {tables others : Tables} {e : WriteEvent} {events : List Event} (block : Expr) (change : ChangeExpr)
      → block_at p e.site ≡ Some block → layer block ≡ Node-F.Update change → AreAllCaptured block e.args
      → IsLegal p (after_update p (names_in block e.args) change tables) events others → IsLegal p tables (Write e ∷ events) others
  delete : {tables others : Tables} {e : WriteEvent} {events : List Event} (block : Expr) (change : ChangeExpr)
      → block_at p e.site ≡ Some block → layer block ≡ Node-F.Delete change → AreAllCaptured block e.args
      → IsLegal p (after_delete p (names_in block e.args) change tables) events others → IsLegal p tables (Write e ∷ events) others
