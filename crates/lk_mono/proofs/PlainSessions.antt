-- What the sessions of a ground program show has no function in it, and the sessions of the ground program and of its program have
-- the same events.
use Rattle.std.proofs.Common.{◌≡◌, ℕ, false, ◌||◌, List, [], ◌∷◌, ◌++◌, refl, sym, ap, subst, ◌∙◌}
use Rattle.lk_ast.proofs.PlainRows.{rows_plain}
use Rattle.lk_ast.specs.Rows.{rows_value}
use Rattle.lk_ast.specs.declared.declaration.Program.{Program}
use Rattle.lk_ast.specs.declared.event.Event.{Event}
use Rattle.lk_ast.specs.declared.event.Event.TheVariants as event
use Rattle.lk_ast.specs.declared.table.Row.{Row}
use Rattle.lk_ast.specs.declared.value.Value.{Value}
use Rattle.lk_evaluation.specs.Laws.{run_of}
use Rattle.lk_evaluation.specs.Run.{Run, Entry, Out, Goes, Stops, events_of, start}
use Rattle.lk_evaluation.specs.Source.{session}
use Rattle.lk_ground.proofs.AlikePlain.{plain_events}
use Rattle.lk_ground.specs.Alike.{Alike}
use Rattle.lk_ground.specs.Language.{function_of}
use Rattle.lk_ground.specs.declared.program.GroundProgram.{GroundProgram}
use Rattle.lk_types.proofs.Parts.{same_some}
use Rattle.lk_ground_types.specs.Shapes.{has_function}
use Rattle.lk_mono.specs.Keeps.{Keeps, SameEvents}
use Rattle.lk_mono.specs.Plain.{IsPlainEvent, IsPlainOut, ShowsPlain}
use Rattle.lk_sound.specs.Instances.{Instances, IsShaped}
use Rattle.lk_sound.specs.Law.{AreAnswered, PlainLaw, SessionLaw}
use Rattle.lk_sound.specs.Outcomes.{Allows, Happens, IsOutcome}
use Rattle.lk_sound.specs.Tables.{ArePlain, IsWriting}
use Rattle.lk_sound.specs.Values.{Fits}
use Rattle.lk_types.specs.Each.{Each}
use Rattle.lk_types.specs.Rows.{EffectSet}
use Rattle.lk_types.specs.declared.ground.Ground.{Ground}

-- ---- events

rows_alone : (rows : List Row) → ArePlain (rows_value rows ∷ [])
rows_alone rows = λ i. rows_plain rows i || false

written_plain : (p : Program) (site : ℕ) (args : List Value) → IsWriting p site args → ArePlain args
written_plain p site args (IsWriting.insert block t e def rows found inserts at are fit) = subst ArePlain (sym are) (rows_alone rows)
written_plain p site args (IsWriting.update block change def found updates at captured plain fit) = plain
written_plain p site args (IsWriting.delete block change def found deletes at captured plain) = plain

module _ (p : Program) (i : Instances) (effects : EffectSet) where
  event_plain : (e : Event) → Allows p i effects e → IsPlainEvent e
  event_plain (event.Print bytes) allowed = tt
  event_plain event.Enter allowed = tt
  event_plain event.Leave allowed = tt
  event_plain (event.Read read) allowed = allowed.1.plain
  event_plain (event.Write write) allowed = written_plain p write.site write.args allowed.1

  events_plain : (entries : List Entry) → Each (λ (entry : Entry). Allows p i effects entry.event) entries → Each IsPlainEvent (events_of entries)
  events_plain [] all = tt
  events_plain (entry ∷ entries) all = (event_plain entry.event all.0, events_plain entries all.1)

  log_plain : (before last : Run) → before.log ≡ [] → Happens p i effects before last → Each IsPlainEvent (events_of last.log)
  log_plain before last empty happens = subst (λ log. Each IsPlainEvent (events_of log)) (sym (happens.log ∙ ap (λ log. log ++ happens.more) empty)) (events_plain happens.more happens.allowed)

  module _ (plain_law : PlainLaw) (answer : Ground) (none : has_function answer ≡ false) where
    out_plain : (before : Run) → before.log ≡ [] → (out : Out Value) → IsOutcome p i effects (λ v. Fits p i v answer) before out → IsPlainOut out
    out_plain before empty (Goes v last) outcome = (plain_law p i answer v outcome.0 none, log_plain before last empty outcome.1)
    out_plain before empty (Stops stop last) outcome = log_plain before last empty outcome.1

-- ---- sessions

module _ (session_law : SessionLaw) (plain_law : PlainLaw) (p : Program) (shaped : IsShaped p) where
  pub shows_plain : ShowsPlain p
  shows_plain apart main is arg fuel answers answered =
      let same : shaped.main ≡ main = same_some (sym shaped.is ∙ is) in
      subst (λ f. AreAnswered p (session p f arg (start fuel answers)) → IsPlainOut (session p f arg (start fuel answers))) same
      (λ of_it. out_plain p shaped.instances shaped.effects plain_law shaped.answer shaped.plain (start fuel answers) refl (session p shaped.main arg (start fuel answers)) (session_law p apart shaped arg (start fuel answers) refl of_it))
      answered

-- the events of what shows no function
of_out : (out : Out Value) → IsPlainOut out → Each IsPlainEvent (events_of (run_of out).log)
of_out (Goes v last) plain = plain.1
of_out (Stops stop last) plain = plain

pub same_events : (p : Program) (g : GroundProgram) → Keeps p g → ShowsPlain p → SameEvents p g
same_events p g (main, first, keeps) shows = (
  main,
  first,
  λ apart uses arg fuel answers answered.
      plain_events g Value Value (Alike g) _ _ (keeps apart.placed uses arg fuel answers) (of_out _ (shows apart (function_of main) first.1 arg fuel answers answered)),
)
