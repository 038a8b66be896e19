-- The events so far come first in the evaluation over their answers, and lead from the old tables to the present ones.
use Rattle.std.proofs.Common.{◌≡◌, ℕ, ◌-◌, List, [], ◌∷◌, ◌++◌, refl, sym, ◌∙◌, ap, subst, append-nil}
use Rattle.std.proofs.lemmas.List.{map-append}
use Rattle.std.specs.Prelude.{Option, Some, None, IfSome}
use Rattle.lk_ast.specs.Functions.{main_of}
use Rattle.lk_ast.specs.Tables.{Tables}
use Rattle.lk_ast.specs.declared.declaration.FunDef.{FunDef}
use Rattle.lk_ast.specs.declared.declaration.Program.{Program}
use Rattle.lk_ast.specs.declared.event.Event.{Event}
use Rattle.lk_ast.specs.declared.place.Loc.{Loc}
use Rattle.lk_ast.specs.declared.table.Row.{Row}
use Rattle.lk_ast.specs.declared.value.Value.{Value}
use Rattle.lk_evaluation.specs.Laws.{HasBegun, run_of}
use Rattle.lk_evaluation.specs.Run.{Run, Entry, Out, Within, answers_in, events_of, start}
use Rattle.lk_evaluation.specs.Source.{session}
use Rattle.lk_outside.specs.Causes.{next_count}
use Rattle.lk_sem.specs.SourceRuns.{HasFirstHistory, HasSomeHistory, commits_after}
use Rattle.lk_sem.specs.Standing.{IsSound, Stands}
use Rattle.lk_sem.specs.Writings.{HasChanged}
use Rattle.lk_sem.specs.declared.machine.Machine.{Machine}
use Rattle.lk_sem.specs.declared.machine.Next.{Next}
use Rattle.lk_sem.specs.declared.machine.Next.TheVariants as now
use Rattle.lk_sem.proofs.Commits.{commits_read, commits_write}
use Rattle.lk_sem.proofs.Standing.{past_written}
use Rattle.lk_sound.proofs.Legality.{no_past, past_followed, past_history}
use Rattle.lk_sound.specs.Histories.{HasAnswer, HasFollowed, HasHistory, read_event, write_event}
use Rattle.lk_sem.proofs.Sound as sound
use Rattle.lk_sem.proofs.Unread.{Kept}
use Rattle.lk_sem.proofs.Whole.{answers_both}
use Rattle.lk_types.proofs.Members.{each_both}
use Rattle.lk_types.specs.Each.{Each}

-- a writing has no answer
pub answers_written : (log : List Event) (site : ℕ) (args : List Value) → answers_in (log ++ write_event site args ∷ []) ≡ answers_in log
answers_written log site args = answers_both log (write_event site args ∷ []) ∙ append-nil (answers_in log)

-- an evaluation that keeps to a log begins with its events
begun_by : (o : Run → Out Value) (fuel : ℕ) (log : List Entry) (answers : List (List Row)) (events : List Event) → Kept log (run_of (o (start fuel answers))) → answers_in events ≡ answers → events_of log ≡ events → HasBegun o fuel events
begun_by o fuel log answers events k read are =
    subst (λ rows. (more : List Event) × (events_of (run_of (o (start fuel rows))).log ≡ events ++ more)) (sym read)
    (events_of k.more, ap events_of k.is ∙ map-append (λ (x : Entry). x.event) log k.more ∙ ap (λ xs. xs ++ events_of k.more) are)

module _ (p : Program) (first m : Machine) (o : Run → Out Value) (fuel : ℕ) (none : first.log ≡ []) (is : first.fuel ≡ fuel) (law : IsSound p o fuel) (next : Next) (old told : Option Tables) (s : Stands p first o old told m next) where
  -- the events so far
  pub begun_here : HasBegun o fuel m.log
  begun_here =
      let here = sound.here p first m o fuel none is law next s.leads s.answered in
      begun_by o fuel here.0.log (answers_in m.log) m.log (sound.keeps p first m o fuel none is law next s.leads s.answered) refl here.1.log

  -- and so many transactions were committed before them, and behind them
  pub first_history : (before after : ℕ) (present : Option Tables) → present ≡ told → after ≡ commits_after m.log before → HasFirstHistory p o fuel old present before after
  first_history before after present same count = (m.log, begun_here, s.answered, subst (λ t. HasHistory p old t m.log) (sym same) (past_history p old told m.log s.past), count)

  -- the same with a reading that isn't in the log yet
  begun_reading : (back : Loc) (site : ℕ) (args : List Value) (rows : List Row) → next ≡ now.Read back site args → HasBegun o fuel (m.log ++ read_event site args rows ∷ [])
  begun_reading back site args rows e =
      let there = sound.here_before p first m o fuel none is law next s.leads s.answered rows in
      let entry : Entry = record { number = there.0.steps; event = read_event site args rows; crossing = Within } in
      begun_by o fuel (there.0.log ++ entry ∷ []) (answers_in m.log ++ rows ∷ []) (m.log ++ read_event site args rows ∷ [])
      (sound.keeps_reading p first m o fuel none is law next s.leads s.answered back site args rows e) (answers_both m.log (read_event site args rows ∷ []))
      (map-append (λ (x : Entry). x.event) there.0.log (entry ∷ []) ∙ ap (λ xs. xs ++ read_event site args rows ∷ []) there.1.log)

  pub first_read : (before count after : ℕ) (present : Option Tables) (back : Loc) (site : ℕ) (args : List Value) (rows : List Row) → next ≡ now.Read back site args → present ≡ told
      → HasAnswer p (read_event site args rows) → HasFollowed p told told (read_event site args rows) → count ≡ commits_after m.log before → after ≡ next_count count → HasFirstHistory p o fuel old present before after
  first_read before count after present back site args rows e same answer followed counted one =
      let log : List Event = m.log ++ read_event site args rows ∷ [] in (
        log,
        begun_reading back site args rows e,
        each_both (HasAnswer p) m.log (read_event site args rows ∷ []) s.answered (answer, tt),
        subst (λ t. HasHistory p old t log) (sym same) (past_history p old told log (past_followed p old told told m.log (read_event site args rows) s.past followed)),
        commits_read before count m.log site args rows after counted one,
      )

  -- the same with a writing that isn't in the log yet
  pub begun_writing : (back : Loc) (site : ℕ) (args : List Value) → next ≡ now.Write back site args → HasBegun o fuel (m.log ++ write_event site args ∷ [])
  begun_writing back site args e =
      let here = sound.here p first m o fuel none is law next s.leads s.answered in
      let entry : Entry = record { number = here.0.steps; event = write_event site args; crossing = Within } in
      begun_by o fuel (here.0.log ++ entry ∷ []) (answers_in m.log) (m.log ++ write_event site args ∷ []) (sound.keeps_writing p first m o fuel none is law next s.leads s.answered back site args e) (answers_written m.log site args)
      (map-append (λ (x : Entry). x.event) here.0.log (entry ∷ []) ∙ ap (λ xs. xs ++ write_event site args ∷ []) here.1.log)

  -- so it is with no more fuel than was used
  pub begun_at_last : (back : Loc) (site : ℕ) (args : List Value) → next ≡ now.Write back site args → HasBegun o (fuel - m.fuel) (m.log ++ write_event site args ∷ [])
  begun_at_last back site args e =
      let here = sound.here_at_last p first m o fuel none is law next s.leads s.answered in
      let entry : Entry = record { number = here.0.steps; event = write_event site args; crossing = Within } in
      begun_by o (fuel - m.fuel) (here.0.log ++ entry ∷ []) (answers_in m.log) (m.log ++ write_event site args ∷ []) (sound.keeps_writing_at_last p first m o fuel none is law next s.leads s.answered back site args e) (answers_written m.log site args)
      (map-append (λ (x : Entry). x.event) here.0.log (entry ∷ []) ∙ ap (λ xs. xs ++ write_event site args ∷ []) here.1.log)

  pub first_written : (before count after : ℕ) (present : Option Tables) (back : Loc) (site : ℕ) (args : List Value) → next ≡ now.Write back site args
      → HasChanged p site args told present → count ≡ commits_after m.log before → after ≡ next_count count → HasFirstHistory p o fuel old present before after
  first_written before count after present back site args e changed counted one = (
    m.log ++ write_event site args ∷ [],
    begun_writing back site args e,
    each_both (HasAnswer p) m.log (write_event site args ∷ []) s.answered (tt, tt),
    past_history p old present _ (past_written p old told present site args m.log s.past changed),
    commits_write before count m.log site args after counted one,
  )

-- ---- nothing has happened

begun_nothing : (o : Run → Out Value) (fuel : ℕ) → HasBegun o fuel []
begun_nothing o fuel = (events_of (run_of (o (start fuel []))).log, refl)

pub no_events : (p : Program) (o : Run → Out Value) (fuel : ℕ) (told : Option Tables) (count : ℕ) → HasFirstHistory p o fuel told told count count
no_events p o fuel told count = ([], begun_nothing o fuel, tt, past_history p told told [] (no_past p told), refl)

pub no_session : (p : Program) (arg : List ℕ) (fuel : ℕ) (told : Option Tables) (count : ℕ) → HasSomeHistory p arg fuel told told count count
no_session p arg fuel told count = ([], go (main_of p), tt, past_history p told told [] (no_past p told), refl)
  where
    go : (main : Option FunDef) → IfSome main (λ f. HasBegun (session p f arg) fuel [])
    go None = tt
    go (Some f) = begun_nothing (session p f arg) fuel

-- the same of the session of a program's `main`
pub session_history : (p : Program) (main : FunDef) (arg : List ℕ) (fuel : ℕ) (old new : Option Tables) (before after : ℕ) → Some main ≡ main_of p → HasFirstHistory p (session p main arg) fuel old new before after
    → HasSomeHistory p arg fuel old new before after
session_history p main arg fuel old new before after is (events, begun, answered, history, counted) =
    (events, subst (λ o. IfSome o (λ f. HasBegun (session p f arg) fuel events)) is begun, answered, history, counted)
