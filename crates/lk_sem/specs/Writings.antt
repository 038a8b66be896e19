-- What becomes of a writing.
use Rattle.std.specs.Prelude.{◌≡◌, ℕ, ◌+◌, ◌<◌, ◌≤◌, true, List, [], ◌∷◌, ◌++◌, Option, Some, None, length, IfSome, IsSomeAnd}
use Rattle.lk_ast.specs.Layers.{layer}
use Rattle.lk_ast.specs.Limits.{most_rows}
use Rattle.lk_ast.specs.Rows.{rows_value}
use Rattle.lk_ast.specs.Tables.{Tables, all_fit, row_fits}
use Rattle.lk_ast.specs.declared.declaration.Program.{Program}
use Rattle.lk_ast.specs.declared.expression.ChangeExpr.{ChangeExpr, out-ChangeExpr}
use Rattle.lk_ast.specs.declared.expression.Expr.{Expr}
use Rattle.lk_ast.specs.declared.expression.Node.TheOpen.{Node-F}
use Rattle.lk_ast.specs.declared.place.Word.{Word}
use Rattle.lk_ast.specs.declared.table.Row.{Row}
use Rattle.lk_ast.specs.declared.table.TableDef.{TableDef}
use Rattle.lk_ast.specs.declared.value.Value.{Value}
use Rattle.lk_bag.specs.Blocks.{block_at}
use Rattle.lk_bag.specs.Change.{updated}
use Rattle.lk_bag.specs.Legal.{AreAllCaptured, names_in}
use Rattle.lk_outside.specs.Causes.{next_count}
use Rattle.lk_outside.specs.Store.{Changes}
use Rattle.lk_outside.specs.TableSizes.{HasRoom, HasSize}
use Rattle.lk_sound.specs.Histories.{Follows, write_event}
use Rattle.lk_sound.specs.Tables.{AreTables, table_at}
use Rattle.lk_sem.specs.SourceRuns.{IsOverfull}
use Rattle.lk_sem.specs.declared.writes.Written.{Written}
use Rattle.lk_sem.specs.declared.writes.Written.TheVariants.{Done, Full}

-- ---- the three kinds

-- an insertion into that table begins there, of rows that fit
pub record IsInsertion (p : Program) (site : ℕ) (args : List Value) (table : Word) : Type 0 where
  pub block : Expr
  pub expr : Expr
  pub def : TableDef
  pub rows : List Row
  pub found : block_at p site ≡ Some block
  pub inserts : layer block ≡ Node-F.Insert table expr
  pub declared : table_at p table.text ≡ Some def
  pub are : args ≡ rows_value rows ∷ []
  pub fit : all_fit def rows ≡ true

-- an update begins there, with a value for each name that it captures, and leaves rows that fit
pub record IsUpdate (p : Program) (site : ℕ) (args : List Value) (block : Expr) (change : ChangeExpr) : Type 0 where
  pub def : TableDef
  pub found : block_at p site ≡ Some block
  pub updates : layer block ≡ Node-F.Update change
  pub captured : AreAllCaptured block args
  pub declared : table_at p (out-ChangeExpr change).table.text ≡ Some def
  pub fit : (row : Row) → row_fits def row ≡ true → row_fits def (updated p (names_in block args) change row) ≡ true

-- a deletion begins there, with a value for each name that it captures
pub record IsDeletion (p : Program) (site : ℕ) (args : List Value) (block : Expr) (change : ChangeExpr) : Type 0 where
  pub def : TableDef
  pub found : block_at p site ≡ Some block
  pub deletes : layer block ≡ Node-F.Delete change
  pub captured : AreAllCaptured block args
  pub declared : table_at p (out-ChangeExpr change).table.text ≡ Some def

-- ---- what the tables are then

-- the rows stand behind those of the table of that name, or it would be too full and all is as it was
abbrev pub HasAdded : Option Tables → Option Tables → List ℕ → List Row → Written → Type 0
HasAdded old new name rows Done = HasRoom old name rows × Changes old new name (λ before. before ++ rows)
HasAdded old new name rows (Full size) = (new ≡ old) × (most_rows < size) × HasSize old name rows size

-- the tables are now what the writing makes of them, and fit as before; those that the program doesn't declare are as they were
pub record IsChanged (p : Program) (site : ℕ) (args : List Value) (before after : Tables) : Type 0 where
  pub follows : Follows p before (write_event site args) after
  pub fit : AreTables p before → AreTables p after
  pub others : (x : List ℕ) → table_at p x ≡ None → after x ≡ before x

-- the same where they are told; where they weren't they aren't now
abbrev pub HasChanged : Program → ℕ → List Value → Option Tables → Option Tables → Type 0
HasChanged p site args None new = new ≡ None
HasChanged p site args (Some before) new = IsSomeAnd new (λ after. IsChanged p site args before after)

-- it was done, or the table would be too full and all is as it was
abbrev pub HasWritten : Program → ℕ → List Value → Option Tables → Option Tables → Written → Type 0
HasWritten p site args old new Done = HasChanged p site args old new
HasWritten p site args old new (Full size) = (new ≡ old) × IsOverfull p site args old size

-- how many transactions are committed then: one more where it was done
abbrev pub commits_written : Written → ℕ → ℕ
commits_written Done count = next_count count
commits_written (Full size) count = count
