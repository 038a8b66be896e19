-- Tables that are scanned one after the other, and what a session makes of them.
use Rattle.std.proofs.Common.{◌≡◌, ◌∙◌, refl, ap, subst, inr, ℕ, List, [], ◌∷◌, map}
use Rattle.std.specs.Prelude.{Option, Some, None, option_map, Result, Ok, Err, IfOk}
use Rattle.std.specs.List.{AllZip}
use Rattle.lk_ast.specs.Tables.{Tables, rows_of, table_defs}
use Rattle.lk_ast.specs.declared.declaration.Program.{Program}
use Rattle.lk_ast.specs.declared.event.Event.{Event}
use Rattle.lk_ast.specs.declared.table.TableDef.{TableDef}
use Rattle.lk_ast.specs.declared.table.TableRows.{TableRows}
use Rattle.lk_outside.specs.Causes.{next_count}
use Rattle.lk_outside.specs.Scans.{IsScanned}
use Rattle.lk_outside.specs.declared.fault.OutFault.{OutFault}
use Rattle.lk_sem.specs.SourceRuns.{IsRun, commits_after}
use Rattle.lk_sound.specs.Histories.{HasAnswer, HasHistory, KeepsOthers}
use Rattle.lk_sound.specs.Tables.{table_at}
use Rattle.lk_types.specs.Each.{Each}
use Rattle.lk_cli.specs.Answers.{IsSessionOver}
use Rattle.lk_cli.specs.Ended.{run_of}
use Rattle.lk_cli.specs.Loading.{AreLeft, BreaksOff, HasRowsOf, HasToldSession, IsOfTable, empty_table, loaded_over, rows_if}
use Rattle.lk_cli.specs.declared.answer.Done.{Done}
use Rattle.lk_words.specs.declared.command.SourceCommand.{SourceCommand}

-- tables without rows fit
pub empty_fit : (defs : List TableDef) → AllZip IsOfTable defs (map empty_table defs)
empty_fit [] = tt
empty_fit (def ∷ defs) = (record { name = refl; columns = refl }, empty_fit defs)

all_of_table : (told : Option Tables) (defs : List TableDef) (tables : List TableRows) → AllZip (IsScanned told) defs tables → AllZip IsOfTable defs tables
all_of_table told [] [] are = tt
all_of_table told [] (table ∷ tables) are = absurd are
all_of_table told (def ∷ defs) [] are = absurd are
all_of_table told (def ∷ defs) (table ∷ tables) are = (record { name = are.0.name; columns = are.0.listed.fit }, all_of_table told defs tables are.1)

all_rows : (now : Tables) (defs : List TableDef) (tables : List TableRows) → AllZip (IsScanned (Some now)) defs tables → AllZip (HasRowsOf now) defs tables
all_rows now [] [] are = tt
all_rows now [] (table ∷ tables) are = absurd are
all_rows now (def ∷ defs) [] are = absurd are
all_rows now (def ∷ defs) (table ∷ tables) are = (are.0.listed.same, all_rows now defs tables are.1)

-- what a table that isn't declared has is what it had
unloaded : (program : Program) (loaded : List TableRows) (old : Tables) (x : List ℕ) → table_at program x ≡ None → loaded_over (table_defs program) loaded old x ≡ old x
unloaded program loaded old x none = ap (λ o. rows_if o (rows_of loaded x) (old x)) none

told_session : (program : Program) (loaded : List TableRows) (events : List Event) (printed : List TableRows) (old new : Option Tables)
    → HasHistory program (option_map (loaded_over (table_defs program) loaded) old) new events
    → KeepsOthers program (option_map (loaded_over (table_defs program) loaded) old) new
    → AllZip (IsScanned new) (table_defs program) printed
    → HasToldSession program loaded events printed old new
told_session program loaded events printed None new history others are = tt
told_session program loaded events printed (Some old) None history others are = absurd history
told_session program loaded events printed (Some old) (Some new) history others are = record {
  history = history;
  same = all_rows new (table_defs program) printed are;
  others = λ x none. others x none ∙ unloaded program loaded old x none;
}

-- a session over tables that were loaded
session_over : (program : Program) (command : SourceCommand) (loaded : List TableRows) (done : Done) (old between new : Option Tables) (before middle after : ℕ)
    → between ≡ option_map (loaded_over (table_defs program) loaded) old → middle ≡ next_count before
    → IsRun program command.arg command.fuel new (run_of done.run) → Each (HasAnswer program) done.run.log
    → HasHistory program between new done.run.log → KeepsOthers program between new → AllZip (IsScanned new) (table_defs program) done.tables
    → after ≡ commits_after done.run.log middle
    → IsSessionOver program command loaded done old new before after
session_over program command loaded done old between new before middle after is one run answered history others are committed = record {
  run = run;
  answered = answered;
  tables = all_of_table new (table_defs program) done.tables are;
  told = told_session program loaded done.run.log done.tables old new (subst (λ told. HasHistory program told new done.run.log) is history) (subst (λ told. KeepsOthers program told new) is others) are;
  committed = committed ∙ ap (commits_after done.run.log) one;
}

-- where it is answered
pub session_answered : (program : Program) (command : SourceCommand) (loaded : List TableRows) (r : Result Done OutFault) (old between new : Option Tables) (before middle after : ℕ)
    → between ≡ option_map (loaded_over (table_defs program) loaded) old → middle ≡ next_count before
    → IfOk r (λ done. IsRun program command.arg command.fuel new (run_of done.run)) → IfOk r (λ done. Each (HasAnswer program) done.run.log)
    → IfOk r (λ done. HasHistory program between new done.run.log) → KeepsOthers program between new → IfOk r (λ done. AllZip (IsScanned new) (table_defs program) done.tables)
    → IfOk r (λ done. after ≡ commits_after done.run.log middle)
    → IfOk r (λ done. IsSessionOver program command loaded done old new before after)
session_answered program command loaded (Ok done) old between new before middle after is one run answered history others are committed =
    session_over program command loaded done old between new before middle after is one run answered history others are committed
session_answered program command loaded (Err fault) old between new before middle after is one run answered history others are committed = tt

-- ---- where a session breaks off

told_others : (program : Program) (loaded : List TableRows) (old new : Option Tables) → KeepsOthers program (option_map (loaded_over (table_defs program) loaded) old) new → KeepsOthers program old new
told_others program loaded None new others x none = tt
told_others program loaded (Some old) None others x none = tt
told_others program loaded (Some old) (Some new) others x none = others x none ∙ unloaded program loaded old x none

-- afterwards
pub left_over : (program : Program) (command : SourceCommand) (loaded : List TableRows) (old between new : Option Tables) (before middle after : ℕ) (fault : OutFault)
    → between ≡ option_map (loaded_over (table_defs program) loaded) old → middle ≡ next_count before
    → BreaksOff program command fault between new middle after → KeepsOthers program between new → AreLeft program command loaded fault old new before after
left_over program command loaded old between new before middle after fault is one breaks others = record {
  become = inr (subst (λ told. BreaksOff program command fault told new (next_count before) after) is (subst (λ count. BreaksOff program command fault between new count after) one breaks));
  others = told_others program loaded old new (subst (λ told. KeepsOthers program told new) is others);
}
