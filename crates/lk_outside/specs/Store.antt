-- What the calls of a store do to its tables.
use Rattle.std.specs.Prelude.{◌≡◌, ◌≢◌, ◌⊎◌, ◌≤◌, ℕ, List, false, Option, Some, None, Result, IsSomeAnd, IsErrOf, OnOk}
use Rattle.lk_ast.specs.Tables.{Tables, all_fit}
use Rattle.lk_ast.specs.declared.table.Row.{Row}
use Rattle.lk_ast.specs.declared.table.TableDef.{TableDef}
use Rattle.lk_outside.specs.Causes.{Rose}
use Rattle.lk_outside.specs.declared.fault.OutFault.{OutFault}
use Rattle.lk_outside.specs.declared.fault.OutFault.TheVariants.{Failed}

-- the table of this name has these rows now, and every other table has its old ones
pub record Puts (old new : Tables) (name : List ℕ) (rows : List Row) : Type 0 where
  pub named : new name ≡ rows
  pub others : (other : List ℕ) → other ≢ name → new other ≡ old other

-- The table of this name alone has changed, by this change of its rows: where the tables were told they still are, and where they
-- weren't they aren't now.
abbrev pub Changes : Option Tables → Option Tables → List ℕ → (List Row → List Row) → Type 0
Changes None new name change = new ≡ None
Changes (Some before) new name change = IsSomeAnd new (λ after. Puts before after name (change (before name)))

-- the tables are told, and this one holds a row of other columns
abbrev pub HasForeignRow : Option Tables → TableDef → Type 0
HasForeignRow told table = IsSomeAnd told (λ tables. all_fit table (tables table.name) ≡ false)

-- The count of faults didn't fall. Where the answer is `Failed` it rose, or the table holds a row of other columns; where the call
-- passed it is as before.
pub record ScanHasCause {T : Type 0} (before now : ℕ) (told : Option Tables) (table : TableDef) (result : Result T OutFault) : Type 0 where
  pub later : before ≤ now
  pub failed : IsErrOf result Failed → Rose before now ⊎ HasForeignRow told table
  pub passed : OnOk result (now ≡ before)
