-- Tables whose rows fit their declarations, and what readings and writings of a program do with them.
use Rattle.std.specs.Prelude.{◌≡◌, ℕ, true, false, List, [], ◌∷◌, Option, Some, map, find, bytes_eq, IsPermutation}
use Rattle.std.specs.List.{list_any}
use Rattle.lk_ast.specs.Layers.{layer}
use Rattle.lk_ast.specs.Plain.{holds_function}
use Rattle.lk_ast.specs.Rows.{row_value, rows_value}
use Rattle.lk_ast.specs.Tables.{Tables, all_fit, row_fits, table_defs}
use Rattle.lk_ast.specs.declared.declaration.Program.{Program}
use Rattle.lk_ast.specs.declared.event.Event.{Event}
use Rattle.lk_ast.specs.declared.event.Event.TheVariants.{Print, Enter, Leave, Read, Write}
use Rattle.lk_ast.specs.declared.expression.ChangeExpr.{ChangeExpr, out-ChangeExpr}
use Rattle.lk_ast.specs.declared.expression.Expr.{Expr}
use Rattle.lk_ast.specs.declared.expression.Node.TheOpen.{Node-F}
use Rattle.lk_ast.specs.declared.place.Word.{Word}
use Rattle.lk_ast.specs.declared.table.Row.{Row}
use Rattle.lk_ast.specs.declared.table.TableDef.{TableDef}
use Rattle.lk_ast.specs.declared.value.Value.{Value}
use Rattle.lk_bag.specs.Blocks.{block_at}
use Rattle.lk_bag.specs.Change.{updated}
use Rattle.lk_bag.specs.Legal.{AreAllCaptured, bag, names_in, reads_tables}
use Rattle.lk_types.specs.Each.{Each}

-- the rows of each declared table fit it
abbrev pub AreTables : Program → Tables → Type 0
AreTables p tables = Each (λ (def : TableDef). all_fit def (tables def.name) ≡ true) (table_defs p)

-- the table of that name
abbrev pub table_at : Program → List ℕ → Option TableDef
table_at p x = find (λ (def : TableDef). bytes_eq def.name x) (table_defs p)

-- no function stands in them
abbrev pub ArePlain : List Value → Type 0
ArePlain args = list_any holds_function args ≡ false

-- a query or a table of the program, with a value for each name that it captures: over all tables that fit it gives rows
pub record IsReading (p : Program) (site : ℕ) (args : List Value) : Type 0 where
  pub block : Expr
  pub found : block_at p site ≡ Some block
  pub reads : reads_tables (layer block) ≡ true
  pub captured : AreAllCaptured block args
  pub plain : ArePlain args
  pub rows : (tables : Tables) → AreTables p tables → (rows : List Row) × (bag p tables block args ≡ map row_value rows)

-- A writing of the program, with the rows to be inserted or a value for each name that it captures: the rows of its table fit
-- behind it, too.
pub data IsWriting (p : Program) (site : ℕ) (args : List Value) : Type 0 where
  insert : (block : Expr) (t : Word) (e : Expr) (def : TableDef) (rows : List Row) → block_at p site ≡ Some block → layer block ≡ Node-F.Insert t e → table_at p t.text ≡ Some def
      → args ≡ rows_value rows ∷ [] → all_fit def rows ≡ true → IsWriting p site args
  update : (block : Expr) (change : ChangeExpr) (def : TableDef) → block_at p site ≡ Some block → layer block ≡ Node-F.Update change → table_at p (out-ChangeExpr change).table.text ≡ Some def
      → AreAllCaptured block args → ArePlain args → ((row : Row) → row_fits def row ≡ true → row_fits def (updated p (names_in block args) change row) ≡ true) → IsWriting p site args
  delete : (block : Expr) (change : ChangeExpr) (def : TableDef) → block_at p site ≡ Some block → layer block ≡ Node-F.Delete change → table_at p (out-ChangeExpr change).table.text ≡ Some def
      → AreAllCaptured block args → ArePlain args → IsWriting p site args

-- a reading was answered by its bag over tables that fit, in some order
abbrev pub IsAnswered : Program → Event → Type 0
IsAnswered p (Print bytes) = Unit {0}
IsAnswered p Enter = Unit {0}
IsAnswered p Leave = Unit {0}
IsAnswered p (Write e) = Unit {0}
IsAnswered p (Read e) = (block : Expr) × (block_at p e.site ≡ Some block) × (listed : Tables) × AreTables p listed × IsPermutation (bag p listed block e.args) (map row_value e.answer)
