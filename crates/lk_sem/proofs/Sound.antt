-- What the soundness of a session says at each state of the machine that evaluates it.
use Rattle.std.proofs.Common.{◌≡◌, ℕ, ◌+◌, ◌-◌, false, List, [], ◌∷◌, ◌++◌, map, refl, sym, ◌∙◌, ap, subst, arith, append-nil}
use Rattle.std.specs.Prelude.{Some}
use Rattle.lk_ast.specs.Functions.{main_of}
use Rattle.lk_ast.specs.Plain.{holds_function}
use Rattle.lk_ast.specs.Rows.{rows_value}
use Rattle.lk_ast.specs.declared.declaration.FunDef.{FunDef}
use Rattle.lk_ast.specs.declared.declaration.Program.{Program}
use Rattle.lk_ast.specs.declared.event.Event.{Event}
use Rattle.lk_ast.specs.declared.event.Event.TheVariants.{Print, Enter, Leave, Read, Write}
use Rattle.lk_ast.specs.declared.place.Loc.{Loc}
use Rattle.lk_ast.specs.declared.place.Span.{Span}
use Rattle.lk_ast.specs.declared.table.Row.{Row}
use Rattle.lk_ast.specs.declared.value.Value.{Value}
use Rattle.lk_evaluation.specs.Evaluation.{reading}
use Rattle.lk_evaluation.specs.Laws.{run_of}
use Rattle.lk_evaluation.specs.Run.{Run, Entry, Out, Goes, Stops, Waiting, Stuck, Within, and_then, answers_in, events_of, logs, start}
use Rattle.lk_evaluation.specs.Source.{session, source}
use Rattle.lk_operators.specs.Values.{unit}
use Rattle.lk_sound.specs.Histories.{HasAnswer, IsPlainEvent, read_event, write_event}
use Rattle.lk_sound.specs.Instances.{Instances, IsShaped}
use Rattle.lk_sound.specs.Law.{AreAnswered, AreBoundAndApart, PlainLaw, SessionLaw}
use Rattle.lk_sound.specs.Values.{Fits}
use Rattle.lk_sound.specs.Outcomes.{Allows, IsOutcome}
use Rattle.lk_sound.specs.Tables.{ArePlain, IsAnswered, IsReading, IsWriting}
use Rattle.lk_sound.specs.Tables as sound
use Rattle.lk_types.proofs.Members.{each_both, each_front}
use Rattle.lk_types.proofs.Parts.{same_some}
use Rattle.lk_types.specs.Each.{Each}
use Rattle.lk_types.specs.Rows.{EffectSet}
use Rattle.lk_types.specs.declared.ground.Ground.{Ground}
use Rattle.lk_sem.specs.Frames.{returned}
use Rattle.lk_sem.specs.Machine.{LeadsWhole, Shows, frame_of, outcome, wound}
use Rattle.lk_sem.specs.Standing.{IsSound}
use Rattle.lk_sem.specs.declared.machine.Machine.{Machine}
use Rattle.lk_sem.specs.declared.machine.Next.{Next}
use Rattle.lk_sem.specs.declared.machine.Next.TheVariants as now
use Rattle.lk_sem.specs.declared.run.Halt.TheVariants as halt
use Rattle.lk_sem.proofs.RowsBack.{plain_rows}
use Rattle.lk_sem.proofs.Unread.{IsUnread, Kept, back_keeps, kept_itself, state_keeps}
use Rattle.lk_sem.proofs.Winding as winding

-- ---- entries and events

module _ (P : Event → Type 0) where
  abbrev Of : Entry → Type 0
  Of entry = P entry.event

  entries_of : (log : List Entry) → Each P (events_of log) → Each Of log
  entries_of [] all = tt
  entries_of (entry ∷ log) all = (all.0, entries_of log all.1)

  events_are : (log : List Entry) → Each Of log → Each P (events_of log)
  events_are [] all = tt
  events_are (entry ∷ log) all = (all.0, events_are log all.1)

each_last : {A : Type 0} (P : A → Type 0) (xs : List A) (x : A) → Each P (xs ++ x ∷ []) → P x
each_last P [] x all = all.0
each_last P (y ∷ xs) x all = each_last P xs x all.1

unread_answered : (p : Program) (log : List Entry) → Each (λ (entry : Entry). IsUnread entry.event) log → Each (λ (entry : Entry). IsAnswered p entry.event) log
unread_answered p [] all = tt
unread_answered p (entry ∷ log) all = (go entry.event all.0, unread_answered p log all.1)
  where
    go : (e : Event) → IsUnread e → IsAnswered p e
    go (Print bytes) h = tt
    go Enter h = tt
    go Leave h = tt
    go (Read e) h = absurd h
    go (Write e) h = tt

-- what was answered so was answered by its bag, sorted or not
by_bag : (p : Program) (e : Event) → HasAnswer p e → IsAnswered p e
by_bag p (Print bytes) h = tt
by_bag p Enter h = tt
by_bag p Leave h = tt
by_bag p (Write e) h = tt
by_bag p (Read e) h = (h.0, h.1, h.4, h.5, h.6.0)

all_by_bag : (p : Program) (events : List Event) → Each (HasAnswer p) events → Each (IsAnswered p) events
all_by_bag p [] all = tt
all_by_bag p (e ∷ events) all = (by_bag p e all.0, all_by_bag p events all.1)

-- ---- what is shown

plain_args : (p : Program) (site : ℕ) (args : List Value) → IsWriting p site args → ArePlain args
plain_args p site args (sound.IsWriting.insert b t e def rows found is declared are fit) = subst ArePlain (sym are) (plain_rows rows)
plain_args p site args (sound.IsWriting.update b change def found is declared captured plain fit) = plain
plain_args p site args (sound.IsWriting.delete b change def found is declared captured plain) = plain

plain_event : (p : Program) (i : Instances) (effects : EffectSet) (e : Event) → Allows p i effects e → IsPlainEvent e
plain_event p i effects (Print bytes) h = tt
plain_event p i effects Enter h = tt
plain_event p i effects Leave h = tt
plain_event p i effects (Read e) h = h.1.plain
plain_event p i effects (Write e) h = plain_args p e.site e.args h.1

plain_events : (p : Program) (i : Instances) (effects : EffectSet) (events : List Event) → Each (Allows p i effects) events → Each IsPlainEvent events
plain_events p i effects [] all = tt
plain_events p i effects (e ∷ events) all = (plain_event p i effects e all.0, plain_events p i effects events all.1)

-- a run without events
pub shows_start : (m : Machine) (less fuel : ℕ) (answers : List (List Row)) → m.log ≡ [] → fuel + less ≡ m.fuel → Shows m less (start fuel answers)
shows_start m less fuel answers none is = record { fuel = is; log = sym none; whole = refl }

all_allowed : (p : Program) (i : Instances) (effects : EffectSet) (fuel : ℕ) (answers : List (List Row)) (out : Out Value) → IsOutcome p i effects (λ v. holds_function v ≡ false) (start fuel answers) out → Each (λ (entry : Entry). Allows p i effects entry.event) (run_of out).log
all_allowed p i effects fuel answers (Goes v s) h = subst (Each (λ (entry : Entry). Allows p i effects entry.event)) (sym h.1.log) h.1.allowed
all_allowed p i effects fuel answers (Stops stop s) h = subst (Each (λ (entry : Entry). Allows p i effects entry.event)) (sym h.1.log) h.1.allowed

-- ---- states

module _ (p : Program) (first m : Machine) (o : Run → Out Value) (fuel : ℕ) (none : first.log ≡ []) (is : first.fuel ≡ fuel) (sound : IsSound p o fuel) (next : Next) (g : LeadsWhole p first o m next)
    (answered : Each (HasAnswer p) m.log) where
  -- the evaluation over the answers so far
  abbrev whole : Out Value
  whole = o (start fuel (answers_in m.log))

  pub here : (s : Run) × Shows m 0 s × (s.answers ≡ []) × (whole ≡ wound p m.stack (outcome p next s))
  here = g.runs 0 (start fuel (answers_in m.log)) [] (omega arith) (shows_start first 0 fuel (answers_in m.log) none (omega (arith, is))) (sym (append-nil (answers_in m.log)))

  -- the same with no more fuel than was used
  abbrev used_up : Out Value
  used_up = o (start (fuel - m.fuel) (answers_in m.log))

  pub here_at_last : (s : Run) × Shows m m.fuel s × (s.answers ≡ []) × (used_up ≡ wound p m.stack (outcome p next s))
  here_at_last =
      let below = g.fuel in
      g.runs m.fuel (start (fuel - m.fuel) (answers_in m.log)) [] (omega arith) (shows_start first m.fuel (fuel - m.fuel) (answers_in m.log) none (omega (arith, below, is))) (sym (append-nil (answers_in m.log)))

  -- the same where an answer more is there
  pub here_before : (rows : List Row) → (s : Run) × Shows m 0 s × (s.answers ≡ rows ∷ []) × (o (start fuel (answers_in m.log ++ rows ∷ [])) ≡ wound p m.stack (outcome p next s))
  here_before rows = g.runs 0 (start fuel (answers_in m.log ++ rows ∷ [])) (rows ∷ []) (omega arith) (shows_start first 0 fuel (answers_in m.log ++ rows ∷ []) none (omega (arith, is))) refl

  -- its readings are answered, where it keeps to a log that is
  answered_with : (log : List Entry) → Each (IsAnswered p) (events_of log) → Kept log (run_of whole) → AreAnswered p whole
  answered_with log all k = subst (Each (λ (entry : Entry). IsAnswered p entry.event)) (sym k.is) (each_both (λ (entry : Entry). IsAnswered p entry.event) log k.more (entries_of (IsAnswered p) log all) (unread_answered p k.more k.unread))

  pub keeps : Kept here.0.log (run_of whole)
  keeps = subst (λ (x : Out Value). Kept here.0.log (run_of x)) (sym here.3) (state_keeps here.0.log p m.stack next here.0 (kept_itself here.0.log here.0 here.1.whole here.2 refl)).kept

  outcome_here : IsOutcome p sound.instances sound.effects (λ v. holds_function v ≡ false) (start fuel (answers_in m.log)) whole
  outcome_here = sound.outcome (answers_in m.log) (answered_with here.0.log (subst (Each (IsAnswered p)) (sym here.1.log) (all_by_bag p m.log answered)) keeps)

  allowed : Each (λ (entry : Entry). Allows p sound.instances sound.effects entry.event) (run_of whole).log
  allowed = all_allowed p sound.instances sound.effects fuel (answers_in m.log) whole outcome_here

  -- no function is shown in the events so far
  pub plain_here : Each IsPlainEvent m.log
  plain_here =
      let front = each_front (λ (entry : Entry). Allows p sound.instances sound.effects entry.event) here.0.log keeps.more (subst (Each (λ (entry : Entry). Allows p sound.instances sound.effects entry.event)) keeps.is allowed) in
      plain_events p sound.instances sound.effects m.log (subst (Each (Allows p sound.instances sound.effects)) here.1.log (events_are (Allows p sound.instances sound.effects) here.0.log front))

  -- what it comes to where the next thing is this
  ends_as : (out : Out Value) → whole ≡ out → IsOutcome p sound.instances sound.effects (λ v. holds_function v ≡ false) (start fuel (answers_in m.log)) out
  ends_as out e = subst (IsOutcome p sound.instances sound.effects (λ v. holds_function v ≡ false) (start fuel (answers_in m.log))) e outcome_here

  -- it has a rule
  pub never_stuck : (at : Span) → next ≡ now.Stop (halt.Stuck at) → ⊥
  never_stuck at e = (ends_as (Stops (Stuck at) here.0) (here.3 ∙ ap (λ n. wound p m.stack (outcome p n here.0)) e ∙ winding.wound-stops (source p) (map frame_of m.stack) (Stuck at) here.0)).0

  -- no function is shown in its value
  pub plain_value : (v : Value) → next ≡ now.Give v → m.stack ≡ [] → holds_function v ≡ false
  plain_value v e empty = (ends_as (Goes v here.0) (here.3 ∙ ap (λ n. wound p m.stack (outcome p n here.0)) e ∙ ap (λ fs. wound p fs (Goes v here.0)) empty)).0

  -- what it is about to read is a reading of the program
  pub reading_here : (back : Loc) (site : ℕ) (args : List Value) → next ≡ now.Read back site args → IsReading p site args
  reading_here back site args e =
      (ends_as (Stops (Waiting site args) here.0)
      (here.3
      ∙ ap (λ n. wound p m.stack (outcome p n here.0)) e
      ∙ ap (λ answers. wound p m.stack (and_then (reading site args answers here.0) (returned back))) here.2
      ∙ winding.wound-stops (source p) (map frame_of m.stack) (Waiting site args) here.0)).0.1

  -- with one answer more it reads that, and keeps to the log with the reading
  pub keeps_reading : (back : Loc) (site : ℕ) (args : List Value) (rows : List Row) → next ≡ now.Read back site args
      → Kept (logs (read_event site args rows) Within (here_before rows).0).log (run_of (o (start fuel (answers_in m.log ++ rows ∷ []))))
  keeps_reading back site args rows e =
      let there = here_before rows in
      let s : Run = there.0 in
      let t : Run = logs (read_event site args rows) Within (record s { answers = [] }) in
      subst (λ (x : Out Value). Kept t.log (run_of x))
      (sym (there.3 ∙ ap (λ n. wound p m.stack (outcome p n s)) e ∙ ap (λ answers. wound p m.stack (and_then (reading site args answers s) (returned back))) there.2))
      (back_keeps t.log p m.stack back (rows_value rows) t (kept_itself t.log t there.1.whole refl refl)).kept

  -- the run with what it is about to write
  abbrev pub with_writing : ℕ → List Value → Run
  with_writing site args = logs (write_event site args) Within here.0

  pub keeps_writing : (back : Loc) (site : ℕ) (args : List Value) → next ≡ now.Write back site args → Kept (with_writing site args).log (run_of whole)
  keeps_writing back site args e =
      let s : Run = here.0 in
      let t : Run = with_writing site args in
      subst (λ (x : Out Value). Kept t.log (run_of x)) (sym (here.3 ∙ ap (λ n. wound p m.stack (outcome p n s)) e)) (back_keeps t.log p m.stack back unit t (kept_itself t.log t here.1.whole here.2 refl)).kept

  pub keeps_writing_at_last : (back : Loc) (site : ℕ) (args : List Value) → next ≡ now.Write back site args → Kept (logs (write_event site args) Within here_at_last.0).log (run_of used_up)
  keeps_writing_at_last back site args e =
      let s : Run = here_at_last.0 in
      let t : Run = logs (write_event site args) Within s in
      subst (λ (x : Out Value). Kept t.log (run_of x)) (sym (here_at_last.3 ∙ ap (λ n. wound p m.stack (outcome p n s)) e)) (back_keeps t.log p m.stack back unit t (kept_itself t.log t here_at_last.1.whole here_at_last.2 refl)).kept

  -- what it is about to write is a writing of the program
  pub writing_here : (back : Loc) (site : ℕ) (args : List Value) → next ≡ now.Write back site args → IsWriting p site args
  writing_here back site args e =
      let s : Run = here.0 in
      let entry : Entry = record { number = s.steps; event = write_event site args; crossing = Within } in
      let t : Run = with_writing site args in
      let k = keeps_writing back site args e in
      let front = each_front (λ (x : Entry). Allows p sound.instances sound.effects x.event) t.log k.more (subst (Each (λ (x : Entry). Allows p sound.instances sound.effects x.event)) k.is allowed) in
      (each_last (λ (x : Entry). Allows p sound.instances sound.effects x.event) s.log entry front).1

-- ---- sessions

plain_outcome : (p : Program) (i : Instances) (t : Ground) (effects : EffectSet) (r : Run) (out : Out Value) → ((v : Value) → Fits p i v t → holds_function v ≡ false) → IsOutcome p i effects (λ v. Fits p i v t) r out → IsOutcome p i effects (λ v. holds_function v ≡ false) r out
plain_outcome p i t effects r (Goes v s) plain h = (plain v h.0, h.1)
plain_outcome p i t effects r (Stops stop s) plain h = h

-- the session of a program of that shape
pub sound_session : (p : Program) → PlainLaw → SessionLaw → AreBoundAndApart p → IsShaped p → (main : FunDef) → Some main ≡ main_of p → (arg : List ℕ) (fuel : ℕ) → IsSound p (session p main arg) fuel
sound_session p of_plain of_session apart shaped main is arg fuel =
    let same : shaped.main ≡ main = same_some (sym shaped.is ∙ sym is) in
    subst (λ f. IsSound p (session p f arg) fuel) same (record {
      instances = shaped.instances;
      effects = shaped.effects;
      outcome = λ answers answered.
          plain_outcome p shaped.instances shaped.answer shaped.effects (start fuel answers) (session p shaped.main arg (start fuel answers))
          (λ v fits. of_plain p shaped.instances shaped.answer v fits shaped.plain)
          (of_session p apart shaped arg (start fuel answers) refl answered);
    })
