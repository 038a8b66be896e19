-- The runs of programs over tables.
use Rattle.std.specs.Prelude.{◌≡◌, ℕ, ◌+◌, ◌<◌, ◌≤◌, false, List, [], ◌∷◌, ◌++◌, Option, Some, length, IfSome}
use Rattle.lk_ast.specs.Functions.{main_of}
use Rattle.lk_ast.specs.Layers.{layer}
use Rattle.lk_ast.specs.Plain.{holds_function}
use Rattle.lk_ast.specs.Limits.{most_rows}
use Rattle.lk_ast.specs.Rows.{rows_value}
use Rattle.lk_ast.specs.Tables.{Tables}
use Rattle.lk_ast.specs.declared.declaration.Program.{Program}
use Rattle.lk_ast.specs.declared.event.Event.{Event}
use Rattle.lk_ast.specs.declared.event.Event.TheVariants.{Print, Enter, Leave, Read, Write}
use Rattle.lk_ast.specs.declared.expression.Expr.{Expr}
use Rattle.lk_ast.specs.declared.expression.Node.TheOpen.{Node-F}
use Rattle.lk_ast.specs.declared.place.Word.{Word}
use Rattle.lk_ast.specs.declared.table.Row.{Row}
use Rattle.lk_ast.specs.declared.value.Value.{Value}
use Rattle.lk_bag.specs.Blocks.{block_at}
use Rattle.lk_bag.specs.Change.{after_insert}
use Rattle.lk_evaluation.specs.Evaluation.{Primitive, Printing, Reading, Writing}
use Rattle.lk_evaluation.specs.Laws.{HasBegun}
use Rattle.lk_evaluation.specs.Run.{Run, Out, Goes, Stops, Trapped, Spent, Waiting, events_of, answers_in, start}
use Rattle.lk_evaluation.specs.Source.{session}
use Rattle.lk_outside.specs.Causes.{next_count}
use Rattle.lk_sound.specs.Histories.{HasAnswer, HasHistory, IsPlainEvent, write_event}
use Rattle.lk_sem.specs.declared.run.SourceEnd.{SourceEnd}
use Rattle.lk_sem.specs.declared.run.SourceEnd.TheVariants as end
use Rattle.lk_sem.specs.declared.run.SourceRun.{SourceRun}
use Rattle.lk_types.specs.Each.{Each}

-- ---- what a run is

-- The evaluation over the answers of the readings in the run's log comes to this outcome, with all of them used; the events
-- and the fuel used are those of the evaluation.
pub record IsRunOf (evaluation : Run → Out Value) (fuel : ℕ) (run : SourceRun) (outcome : Run → Out Value) : Type 0 where
  pub last : Run
  pub end : evaluation (start fuel (answers_in run.log)) ≡ outcome last
  pub log : run.log ≡ events_of last.log
  pub used : run.used + last.fuel ≡ fuel
  pub answers : last.answers ≡ []

-- so many units of fuel are the least with which these events come first in the evaluation
pub record IsLeastFuel (evaluation : Run → Out Value) (events : List Event) (fuel : ℕ) : Type 0 where
  pub enough : HasBegun evaluation fuel events
  pub least : (other : ℕ) → HasBegun evaluation other events → fuel ≤ other

-- The evaluation over the answers in the run's log is about to read, and there it ends, since there is no answer; or to write: that is
-- its next event behind the log, and the fuel used is the least with which it comes to that.
abbrev pub IsRefusedAt : (Run → Out Value) → ℕ → SourceRun → Primitive → Type 0
IsRefusedAt evaluation fuel run (Printing bytes) = ⊥
IsRefusedAt evaluation fuel run (Reading site args) = IsRunOf evaluation fuel run (Stops (Waiting site args))
IsRefusedAt evaluation fuel run (Writing site args) = (run.used ≤ fuel) × IsLeastFuel evaluation (run.log ++ write_event site args ∷ []) run.used

-- an insertion that begins there would leave that many rows in its table, too many
pub record IsOverfull (p : Program) (site : ℕ) (args : List Value) (told : Option Tables) (size : ℕ) : Type 0 where
  pub block : Expr
  pub table : Word
  pub expr : Expr
  pub rows : List Row
  pub found : block_at p site ≡ Some block
  pub inserts : layer block ≡ Node-F.Insert table expr
  pub are : args ≡ rows_value rows ∷ []
  pub many : most_rows < size
  pub leaves : IfSome told (λ tables. length (after_insert table.text rows tables table.text) ≡ size)

-- A run of a session, over a store that tells of its tables, if anything, what it had at the end. It ends as the evaluation over the answers
-- read, or where the store refused a reading or a writing, or where a table would be too full.
abbrev pub IsRunBy : Program → (Run → Out Value) → ℕ → Option Tables → SourceRun → SourceEnd → Type 0
IsRunBy p evaluation fuel told run (end.Value v) = IsRunOf evaluation fuel run (Goes v)
IsRunBy p evaluation fuel told run (end.Trap trap) = IsRunOf evaluation fuel run (Stops (Trapped trap))
IsRunBy p evaluation fuel told run end.Spent = IsRunOf evaluation fuel run (Stops Spent)
IsRunBy p evaluation fuel told run end.StoreFault = (primitive : Primitive) × IsRefusedAt evaluation fuel run primitive
IsRunBy p evaluation fuel told run (end.TableFull size) = (site : ℕ) × (args : List Value) × IsRefusedAt evaluation fuel run (Writing site args) × IsOverfull p site args told size

abbrev pub IsRun : Program → List ℕ → ℕ → Option Tables → SourceRun → Type 0
IsRun p arg fuel told run = IfSome (main_of p) (λ main. IsRunBy p (session p main arg) fuel told run run.end)

-- ---- tables

-- the count of committed transactions after these events, of which each reading and each writing is one
abbrev pub commits_after : List Event → ℕ → ℕ
commits_after [] count = count
commits_after (Print bytes ∷ events) count = commits_after events count
commits_after (Enter ∷ events) count = commits_after events count
commits_after (Leave ∷ events) count = commits_after events count
commits_after (Read e ∷ events) count = commits_after events (next_count count)
commits_after (Write e ∷ events) count = commits_after events (next_count count)

-- First events of an evaluation, whose readings have answers over some tables that fit, lead from the old tables to the new, and the count of committed transactions from that before to that
-- after: so the new tables are those after the last transaction that was committed.
abbrev pub HasFirstHistory : Program → (Run → Out Value) → ℕ → Option Tables → Option Tables → ℕ → ℕ → Type 0
HasFirstHistory p evaluation fuel old new before after = (events : List Event) × HasBegun evaluation fuel events × Each (HasAnswer p) events × HasHistory p old new events × (after ≡ commits_after events before)

-- these events come first in a session
abbrev pub HasBegunSession : Program → List ℕ → ℕ → List Event → Type 0
HasBegunSession p arg fuel events = IfSome (main_of p) (λ main. HasBegun (session p main arg) fuel events)

-- the same of a session
abbrev pub HasSomeHistory : Program → List ℕ → ℕ → Option Tables → Option Tables → ℕ → ℕ → Type 0
HasSomeHistory p arg fuel old new before after = (events : List Event) × HasBegunSession p arg fuel events × Each (HasAnswer p) events × HasHistory p old new events × (after ≡ commits_after events before)

-- ---- what is shown

abbrev pub IsPlainEnd : SourceEnd → Type 0
IsPlainEnd (end.Value v) = holds_function v ≡ false
IsPlainEnd other = Unit {0}

-- no function stands in the value of a run or in its events
abbrev pub IsPlainRun : SourceRun → Type 0
IsPlainRun run = IsPlainEnd run.end × Each IsPlainEvent run.log
