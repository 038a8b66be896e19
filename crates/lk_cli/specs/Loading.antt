-- The tables of a session: with which rows it begins, what becomes of them, and what is read of them at its end.
use Rattle.std.specs.Prelude.{◌≡◌, ◌⊎◌, true, ℕ, List, [], ◌∷◌, Option, Some, None, IfSome, IsSomeAnd, IsPermutation, bytes_eq, find, map, option_map}
use Rattle.std.specs.List.{AllZip}
use Rattle.lk_ast.specs.Tables.{Tables, all_fit, rows_of, table_defs}
use Rattle.lk_ast.specs.declared.declaration.Program.{Program}
use Rattle.lk_ast.specs.declared.event.Event.{Event}
use Rattle.lk_ast.specs.declared.table.Row.{Row}
use Rattle.lk_ast.specs.declared.table.TableDef.{TableDef}
use Rattle.lk_ast.specs.declared.table.TableRows.{TableRows}
use Rattle.lk_bag.specs.Change.{with_rows}
use Rattle.lk_bag.specs.Legal.{IsLegal}
use Rattle.lk_outside.specs.Causes.{next_count}
use Rattle.lk_outside.specs.declared.fault.OutFault.{OutFault}
use Rattle.lk_outside.specs.declared.fault.OutFault.TheVariants.{Failed, NoMemory}
use Rattle.lk_sem.specs.SourceRuns.{HasSomeHistory, IsRun, commits_after}
use Rattle.lk_sem.specs.declared.run.SourceRun.{SourceRun}
use Rattle.lk_sound.specs.Histories.{HasAnswer, HasHistory, KeepsOthers}
use Rattle.lk_sound.specs.Tables.{table_at}
use Rattle.lk_tables.specs.Reading.{refusal, tables_in}
use Rattle.lk_types.specs.Each.{Each}
use Rattle.lk_cli.specs.Seen.{FilesSeen, HasText}
use Rattle.lk_words.specs.declared.command.SourceCommand.{SourceCommand}

-- ---- the rows that a session begins with

-- a declared table without rows
abbrev pub empty_table : TableDef → TableRows
empty_table def = record { name = def.name; rows = [] }

-- the declared tables with the rows that a tables file has for them; where none is asked for they are empty
abbrev pub AreLoaded : FilesSeen → Option (List ℕ) → List TableDef → List TableRows → Type 0
AreLoaded files None defs loaded = loaded ≡ map empty_table defs
AreLoaded files (Some file) defs loaded = (text : List ℕ) × HasText files file text × (refusal defs text ≡ None) × (tables_in defs text ≡ Some loaded)

-- these rows where a table is declared, and others where none is
abbrev pub rows_if : Option TableDef → List Row → List Row → List Row
rows_if (Some def) rows others = rows
rows_if None rows others = others

-- the declared tables have the rows loaded, and all others their old ones
abbrev pub loaded_over : List TableDef → List TableRows → Tables → Tables
loaded_over defs loaded old name = rows_if (find (λ (def : TableDef). bytes_eq def.name name) defs) (rows_of loaded name) (old name)

-- these tables have their rows, put in one after the other, and all others their old ones
abbrev pub all_put : List TableRows → Tables → Tables
all_put [] old = old
all_put (table ∷ tables) old = all_put tables (with_rows table.name table.rows old)

-- ---- what becomes of the tables

-- the name of the declared table, and rows that fit it
pub record IsOfTable (def : TableDef) (table : TableRows) : Type 0 where
  pub name : table.name ≡ def.name
  pub columns : all_fit def table.rows ≡ true

-- the rows of that table, with the same repeats
abbrev pub HasRowsOf : Tables → TableDef → TableRows → Type 0
HasRowsOf tables def table = IsPermutation (tables def.name) table.rows

-- The tables of a session that began with these rows over the old tables: the events lead to the new ones, which are printed, and
-- tables that aren't declared are as they were.
pub record HasSession (program : Program) (loaded : List TableRows) (events : List Event) (printed : List TableRows) (old new : Tables) : Type 0 where
  pub history : IsLegal program (loaded_over (table_defs program) loaded old) events new
  pub same : AllZip (HasRowsOf new) (table_defs program) printed
  pub others : (x : List ℕ) → table_at program x ≡ None → new x ≡ old x

-- where the tables were told they still are, and these are the tables of a session
abbrev pub HasToldSession : Program → List TableRows → List Event → List TableRows → Option Tables → Option Tables → Type 0
HasToldSession program loaded events printed old new = IfSome old (λ before. IsSomeAnd new (λ after. HasSession program loaded events printed before after))

-- What a session made of the rows loaded before it broke off. The store failed: what the log of its run makes of them, which is whole,
-- or goes to the reading or writing that was refused, and in which each reading was answered by what it gives. Memory ran out: what
-- some first events of the session make of them. These are all the transactions that were committed from that count to that.
abbrev pub BreaksOff : Program → SourceCommand → OutFault → Option Tables → Option Tables → ℕ → ℕ → Type 0
BreaksOff program command Failed loaded new before after =
    (run : SourceRun) × IsRun program command.arg command.fuel new run × Each (HasAnswer program) run.log × HasHistory program loaded new run.log
    × (after ≡ commits_after run.log before)
BreaksOff program command NoMemory loaded new before after = HasSomeHistory program command.arg command.fuel loaded new before after

-- The tables that a session leaves which isn't answered: those from before, and nothing was committed; or the rows were loaded, which is
-- one transaction, and they are what it made of these. Tables that aren't declared are as they were.
pub record AreLeft (program : Program) (command : SourceCommand) (loaded : List TableRows) (fault : OutFault) (old new : Option Tables) (before after : ℕ) : Type 0 where
  pub become : ((new ≡ old) × (after ≡ before)) ⊎ BreaksOff program command fault (option_map (loaded_over (table_defs program) loaded) old) new (next_count before) after
  pub others : KeepsOthers program old new
