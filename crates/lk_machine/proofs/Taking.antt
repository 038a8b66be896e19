-- Stretches that machines take: what leads from one machine to another, behind a step or without one, and the steps that come of it.
use Rattle.std.proofs.Common.{◌≡◌, inl, inr, refl, sym, ap, subst, ◌∙◌, ℕ, ◌+◌, ◌≤◌, List, [], ◌∷◌, ◌++◌, Option, Some, None, Bool, true, arith}
use Rattle.std.proofs.lemmas.Bool.{lt-ltb}
use Rattle.std.specs.Prelude.{if◌then◌else◌, nat_lt}
use Rattle.lk_ast.specs.declared.event.Event.TheVariants.{Print}
use Rattle.lk_ast.specs.declared.place.Loc.{Loc}
use Rattle.lk_ast.specs.declared.place.Loc.TheVariants.{Server}
use Rattle.lk_ast.specs.declared.value.Value.{Value}
use Rattle.lk_code.specs.Chains.{AreChained}
use Rattle.lk_code.specs.Meaning.{continues_as, does, frame_meant, rest}
use Rattle.lk_code.specs.Sound.{AreSound}
use Rattle.lk_code.specs.Tables.{first_frame}
use Rattle.lk_code.specs.declared.infos.FrameInfo.{FrameInfo}
use Rattle.lk_code.specs.declared.tables.CodeTables.{CodeTables}
use Rattle.lk_code.specs.declared.tables.Frame.{Frame}
use Rattle.lk_evaluation.specs.Run.{Goes, Run, Stops, Trapped, Within, and_then, logs}
use Rattle.lk_moves.proofs.Courses.{takes_as, takes_from, takes_then}
use Rattle.lk_moves.specs.Courses.{Course, Evaluation, Takes, entering, followed, nothing, one_step}
use Rattle.lk_types.proofs.Parts.{same_some}
use Rattle.lk_types.specs.declared.ground.Ground.{Ground}
use Rattle.lk_machine.specs.Going.{doing, given, here, waiting}
use Rattle.lk_machine.specs.Moves.{EntersTo, HandsTo, Leads, still, then_frames}
use Rattle.lk_machine.specs.Stepped.{IsStep, Stepped}
use Rattle.lk_machine.specs.Typed.{AreFrames}
use Rattle.lk_machine.specs.declared.state.Next.{Next}
use Rattle.lk_machine.specs.declared.state.Next.TheVariants as next
use Rattle.lk_machine.specs.declared.state.Now.{Now}
use Rattle.lk_machine.specs.declared.state.Now.TheVariants as now
use Rattle.lk_machine.specs.declared.state.State.{State}

-- ---- stretches

-- what is printed at once
pub takes_printing : (e f : Evaluation) (bytes : List ℕ) → ((r : Run) → e r ≡ f (logs (Print bytes) Within r)) → Takes e (still (Some bytes)) f
takes_printing e f bytes same r =
    let fuel : 0 + r.fuel ≡ r.fuel = omega arith in
    let steps : r.steps ≡ r.steps + 0 = omega arith in
    ap (λ n. e (record r { fuel = n })) fuel ∙ same r ∙ ap (λ n. f (record r { steps = n; log = r.log ++ record { number = n; event = Print bytes; crossing = Within } ∷ [] })) steps

-- a step that enters a node, or hands a value on, and then no step
pub entering_step : (printed : Option (List ℕ)) → IsStep printed (followed entering (still printed))
entering_step None = record { fuel = let e : 1 ≤ 1 = omega arith in e; steps = refl; log = refl; answers = refl }
entering_step (Some bytes) = record { fuel = let e : 1 ≤ 1 = omega arith in e; steps = refl; log = refl; answers = refl }

pub handing_step : (printed : Option (List ℕ)) → IsStep printed (followed one_step (still printed))
handing_step None = record { fuel = let e : 0 ≤ 1 = omega arith in e; steps = refl; log = refl; answers = refl }
handing_step (Some bytes) = record { fuel = let e : 0 ≤ 1 = omega arith in e; steps = refl; log = refl; answers = refl }

one_step_alone : IsStep None one_step
one_step_alone = record { fuel = let e : 0 ≤ 1 = omega arith in e; steps = refl; log = refl; answers = refl }

module _ (c : CodeTables) where
  -- a stretch is one before the frames of a machine
  pub under_frames : (m : State) (e f : Evaluation) (d : Course) → Takes e d f → Takes (then_frames c m e) d (then_frames c m f)
  under_frames m e f d takes r = ap (λ out. and_then out (rest c (waiting c m.stack) m.place)) (takes r)

  -- ---- what leads on

  -- from another machine at the same place that has the same to do
  pub leads_from : (old mid new : State) (e f : Evaluation) → mid.place ≡ old.place → ((r : Run) → then_frames c old e r ≡ then_frames c mid f r) → (answer : Next) → Leads c mid f new answer → Leads c old e new answer
  leads_from old mid new e f place same next.More leads = takes_from (then_frames c old e) (then_frames c mid f) (doing c new) (still new.printed) same leads
  leads_from old mid new e f place same (next.Ended v) leads = (sym place ∙ leads.0, takes_from (then_frames c old e) (then_frames c mid f) (Goes v) (still new.printed) same leads.1)
  leads_from old mid new e f place same (next.Trapped trap) leads = takes_from (then_frames c old e) (then_frames c mid f) (Stops (Trapped trap)) nothing same leads
  leads_from old mid new e f place same (next.CallOut label args) leads = leads
  leads_from old mid new e f place same (next.Db label args) leads =
      (sym place ∙ leads.0, takes_from (then_frames c old e) (then_frames c mid f) (λ r. and_then (does c label args Server r) (given c new)) nothing same leads.1)

  -- the same to do is said otherwise
  pub leads_as : (old new : State) (e f : Evaluation) → ((r : Run) → e r ≡ f r) → (answer : Next) → Leads c old f new answer → Leads c old e new answer
  leads_as old new e f same = leads_from old old new e f refl (λ r. ap (λ out. and_then out (rest c (waiting c old.stack) old.place)) (same r))

  -- without a step, where nothing is printed
  pub moved : (old new : State) (e : Evaluation) → new.printed ≡ None → ((r : Run) → then_frames c old e r ≡ doing c new r) → Leads c old e new next.More
  moved old new e quiet same = subst (λ p. Takes (then_frames c old e) (still p) (doing c new)) (sym quiet) (takes_as (then_frames c old e) (doing c new) same)

  -- the frames stay, and what comes next is what was to do
  pub goes_next : (old : State) (n : Now) (e : Evaluation) → old.printed ≡ None → ((r : Run) → e r ≡ here c old.place n r) → Leads c old e (record old { now = n }) next.More
  goes_next old n e quiet same = moved old (record old { now = n }) e quiet (λ r. ap (λ out. and_then out (rest c (waiting c old.stack) old.place)) (same r))

  -- a text is printed
  pub printed : (old new : State) (e : Evaluation) (bytes : List ℕ) → new.printed ≡ Some bytes → ((r : Run) → then_frames c old e r ≡ doing c new (logs (Print bytes) Within r)) → Leads c old e new next.More
  printed old new e bytes is same = subst (λ p. Takes (then_frames c old e) (still p) (doing c new)) (sym is) (takes_printing (then_frames c old e) (doing c new) bytes same)

  -- ---- the return of a label

  returned_by : (b : Bool) (place : Loc) (f : Frame) (v : Value) (r : Run) → b ≡ true → and_then ((if b then Goes v else continues_as c (frame_meant c place f) v) r) (rest c [] place) ≡ Goes v r
  returned_by true place f v r is = refl
  returned_by other place f v r is = cc

  -- where it alone waits it hands the value on
  pub returned : (f : Frame) (t : Ground) → AreChained c (f ∷ []) t → (place : Loc) (v : Value) (r : Run) → rest c (f ∷ []) place v r ≡ Goes v r
  returned f t chained place v r = returned_by (nat_lt f.number (first_frame c)) place f v r (lt-ltb f.number (first_frame c) chained.3)

  -- the same of the frames of a machine
  pub alone : (m : State) (f : Frame) (t u : Ground) → m.stack ≡ f ∷ [] → AreFrames c m.place (waiting c m.stack) t u → (v : Value) (r : Run) → rest c (waiting c m.stack) m.place v r ≡ Goes v r
  alone m f t u is frames = subst (λ stack. AreChained c (waiting c stack) t → (v : Value) (r : Run) → rest c (waiting c stack) m.place v r ≡ Goes v r) (sym is) (λ chained v r. returned _ t chained m.place v r) frames.chained

  -- it waits for a value of the type that the label comes to
  pub same_result : AreSound c → (f : Frame) (place : Loc) (t u : Ground) → AreFrames c place (f ∷ []) t u → t ≡ u
  same_result sound f place t u frames =
      let told = frames.returns in
      let chained = frames.chained in
      let back = sound.returns f.number told.0 told.1 in
      sym chained.2 ∙ ap (λ (i : FrameInfo). i.hole) (same_some (sym chained.1 ∙ back.1)) ∙ back.2.hole ∙ told.2

  pub comes_to : AreSound c → (m : State) (f : Frame) (t u : Ground) → m.stack ≡ f ∷ [] → AreFrames c m.place (waiting c m.stack) t u → t ≡ u
  comes_to sound m f t u is frames = subst (λ stack. AreFrames c m.place (waiting c stack) t u → t ≡ u) (sym is) (λ frames. same_result sound _ m.place t u frames) frames

  -- ---- steps

  -- A node was entered, and the rest is done without a step.
  pub entered : (old mid new : State) (e : Evaluation) → mid.place ≡ old.place → ((r : Run) → doing c old r ≡ then_frames c mid e r) → (answer : Next) → EntersTo c mid e new answer → Stepped c old new answer
  entered old mid new e place same next.More enters = (
    followed entering (still new.printed),
    entering_step new.printed,
    takes_from (doing c old) (then_frames c mid e) (doing c new) (followed entering (still new.printed)) same
        (takes_then (then_frames c mid e) (then_frames c mid enters.0) (doing c new) entering (still new.printed) (under_frames mid e enters.0 entering enters.1) enters.2),
  )
  entered old mid new e place same (next.Ended v) enters =
      inr (
        sym place ∙ enters.2.0,
        followed entering (still new.printed),
        entering_step new.printed,
        takes_from (doing c old) (then_frames c mid e) (Goes v) (followed entering (still new.printed)) same
            (takes_then (then_frames c mid e) (then_frames c mid enters.0) (Goes v) entering (still new.printed) (under_frames mid e enters.0 entering enters.1) enters.2.1),
      )
  entered old mid new e place same (next.Trapped trap) enters = (
    followed entering nothing,
    entering_step None,
    takes_from (doing c old) (then_frames c mid e) (Stops (Trapped trap)) (followed entering nothing) same
        (takes_then (then_frames c mid e) (then_frames c mid enters.0) (Stops (Trapped trap)) entering nothing (under_frames mid e enters.0 entering enters.1) enters.2),
  )
  entered old mid new e place same (next.CallOut label args) enters = absurd enters.2
  entered old mid new e place same (next.Db label args) enters =
      let to : Evaluation = λ r. and_then (does c label args Server r) (given c new) in (
        sym place ∙ enters.2.0,
        (
          followed entering nothing,
          inr (entering_step None),
          takes_from (doing c old) (then_frames c mid e) to (followed entering nothing) same
              (takes_then (then_frames c mid e) (then_frames c mid enters.0) to entering nothing (under_frames mid e enters.0 entering enters.1) enters.2.1),
        ),
      )

  -- A value is handed on in a step, and what comes of it is done without one.
  pub hands_from : (old mid new : State) (v : Value) (f : Evaluation) → mid.place ≡ old.place → Takes (then_frames c old (Goes v)) one_step (then_frames c mid f) → (answer : Next) → Leads c mid f new answer → HandsTo c old v new answer
  hands_from old mid new v f place takes next.More leads = takes_then (then_frames c old (Goes v)) (then_frames c mid f) (doing c new) one_step (still new.printed) takes leads
  hands_from old mid new v f place takes (next.Ended w) leads =
      inr (sym place ∙ leads.0, followed one_step (still new.printed), handing_step new.printed, takes_then (then_frames c old (Goes v)) (then_frames c mid f) (Goes w) one_step (still new.printed) takes leads.1)
  hands_from old mid new v f place takes (next.Trapped trap) leads = takes_then (then_frames c old (Goes v)) (then_frames c mid f) (Stops (Trapped trap)) one_step nothing takes leads
  hands_from old mid new v f place takes (next.CallOut label args) leads = leads
  hands_from old mid new v f place takes (next.Db label args) leads =
      (sym place ∙ leads.0, takes_then (then_frames c old (Goes v)) (then_frames c mid f) (λ r. and_then (does c label args Server r) (given c new)) one_step nothing takes leads.1)

  -- So a step is made of it, or none where the value goes back.
  pub handed : (old mid new : State) (v : Value) (t u : Ground) → old.now ≡ now.Give v → mid.place ≡ old.place → mid.stack ≡ old.stack → AreFrames c old.place (waiting c old.stack) t u → (answer : Next) → HandsTo c mid v new answer → Stepped c old new answer
  handed old mid new v t u is place stack frames answer hands = by_answer answer hands
    where
      same : (r : Run) → doing c old r ≡ then_frames c mid (Goes v) r
      same r =
          ap (λ n. and_then (here c old.place n r) (rest c (waiting c old.stack) old.place)) is
          ∙ ap (λ fs. rest c (waiting c fs) old.place v r) (sym stack)
          ∙ ap (λ p. rest c (waiting c mid.stack) p v r) (sym place)

      by_answer : (answer : Next) → HandsTo c mid v new answer → Stepped c old new answer
      by_answer next.More takes = (followed one_step (still new.printed), handing_step new.printed, takes_from (doing c old) (then_frames c mid (Goes v)) (doing c new) (followed one_step (still new.printed)) same takes)
      by_answer (next.Ended w) (inl back) =
          inl ((v, back.1, is, sym stack ∙ back.2), λ r. ap (λ n. and_then (here c old.place n r) (rest c (waiting c old.stack) old.place)) is ∙ alone old back.1 t u (sym stack ∙ back.2) frames v r ∙ ap (λ x. Goes x r) (sym back.0))
      by_answer (next.Ended w) (inr step) = inr (sym place ∙ step.0, step.1, step.2, takes_from (doing c old) (then_frames c mid (Goes v)) (Goes w) step.1 same step.3)
      by_answer (next.Trapped trap) takes = (one_step, one_step_alone, takes_from (doing c old) (then_frames c mid (Goes v)) (Stops (Trapped trap)) one_step same takes)
      by_answer (next.CallOut label args) wrong = absurd wrong
      by_answer (next.Db label args) asks = (sym place ∙ asks.0, (one_step, inr one_step_alone, takes_from (doing c old) (then_frames c mid (Goes v)) (λ r. and_then (does c label args Server r) (given c new)) one_step same asks.1))
