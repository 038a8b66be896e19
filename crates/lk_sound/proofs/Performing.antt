-- What a point with a type does once its parts have their values, over any evaluation of points inside that is sound and only adds
-- to the log.
use Rattle.std.proofs.Common.{◌≡◌, sym, subst, ℕ, List, [], ◌∷◌, ◌++◌, append_assoc, append-nil}
use Rattle.std.specs.Prelude.{Bool, true, false, Option, Some, None}
use Rattle.lk_ast.specs.declared.declaration.Program.{Program}
use Rattle.lk_ast.specs.declared.event.Event.TheVariants.{Print, Enter, Leave, Read, Write}
use Rattle.lk_ast.specs.declared.place.Loc.{Loc}
use Rattle.lk_ast.specs.declared.place.Loc.TheVariants.{Client, Server, Any}
use Rattle.lk_ast.specs.declared.place.Span.{Span}
use Rattle.lk_ast.specs.declared.table.Row.{Row}
use Rattle.lk_ast.specs.declared.value.Value.{Value}
use Rattle.lk_evaluation.proofs.Grows.{Runs, Outs, extends_itself, extends_later, walk}
use Rattle.lk_evaluation.proofs.Walk.{Keeps, all_walk, each_walks, perform_walks}
use Rattle.lk_evaluation.specs.Evaluation.{Primitive, Printing, Reading, Writing, Act, Give, Tail, Goto, Uses, Each as EachOf, Fails, Lacks, Evaluates, handed, client_call, call_from, reading, used, joined, part, all_parts, each, perform, node}
use Rattle.lk_evaluation.specs.Laws.{run_of, Extends}
use Rattle.lk_evaluation.specs.Run.{Run, Entry, Out, step, logs, Callee, Called}
use Rattle.lk_evaluation.specs.Source.{Point, source}
use Rattle.lk_operators.specs.Values.{list_in, unit as unit_value}
use Rattle.lk_types.specs.Each.{Each}
use Rattle.lk_types.specs.Rows.{EffectSet}
use Rattle.lk_types.specs.declared.ground.Ground.{Ground}
use Rattle.lk_types.specs.declared.ground.Ground.TheVariants as known
use Rattle.lk_sound.specs.Acts.{IsUse, IsAct, ArePoints, none, more, IsNode}
use Rattle.lk_sound.specs.Instances.{Instances}
use Rattle.lk_sound.specs.Law.{AreAnswered}
use Rattle.lk_sound.specs.Outcomes.{Happens, IsOutcome}
use Rattle.lk_sound.specs.Points.{IsPoint}
use Rattle.lk_sound.specs.Values.{Fits, AllFit, FitEach, none as no_value, none_left}
use Rattle.lk_sound.proofs.Happening.{logged, passed, handed_on, since, answered_last, then}
use Rattle.lk_sound.proofs.Fitting.{all_fit_both, fit_each_more}
use Rattle.lk_sound.proofs.Shapes.{list_of_fits, list_fits, unit_fits}

-- evaluation of points that gives each that has a type a sound outcome, where its readings are answered
abbrev pub Sound : Program → Instances → Evaluates Point → Type 0
Sound p i rec = (effects : EffectSet) (t : Ground) (point : Point) → IsPoint p i effects t point → (place : Loc) (r : Run) → r.returns ≡ None → AreAnswered p (rec point place r) → IsOutcome p i effects (λ v. Fits p i v t) r (rec point place r)

-- evaluation of points that only adds to the log
abbrev pub Grow : Program → Evaluates Point → Type 0
Grow p rec = Keeps (source p) (List Entry) Runs Outs rec rec

pub handed_grows : (plain : Bool) (s : Run) → Extends s.log (handed plain s).log
handed_grows true s = extends_itself s.log
handed_grows false s = extends_itself s.log

-- an event more
event_grows : (s : Run) (entry : Entry) → Extends s.log (s.log ++ entry ∷ [])
event_grows s entry = extends_later s.log entry s.log (extends_itself s.log)

pub joined_grows : (at : Span) (made : List Value) (found : Option (List Value)) (next : List Value → Run → Out Value) (s : Run) → ((all : List Value) → Extends s.log (run_of (next all s)).log) → Extends s.log (run_of (joined at made found next s)).log
joined_grows at made None next s grows = extends_itself s.log
joined_grows at made (Some values) next s grows = grows (made ++ values)

module _ (p : Program) (i : Instances) (rec : Evaluates Point) (sound : Sound p i rec) (grow : Grow p rec) (effects : EffectSet) (before : Run) where
  -- a point inside
  inside : (t : Ground) (point : Point) → IsPoint p i effects t point → (place : Loc) (r : Run) → Happens p i effects before r → AreAnswered p (rec point place r) → IsOutcome p i effects (λ v. Fits p i v t) before (rec point place r)
  inside t point is place r h answered = since p i (λ v. Fits p i v t) effects before r h _ (sound effects t point is place r h.whole answered)

  part_sound : (t : Ground) (point : Point) → IsPoint p i effects t point → (place : Loc) (r : Run) → Happens p i effects before r → AreAnswered p (part (source p) rec point place r) → IsOutcome p i effects (λ v. Fits p i v t) before (part (source p) rec point place r)
  part_sound t point is place r h =
      then p i effects before (λ v. Fits p i v t) (λ v. Fits p i v t) (rec point place r) _ (λ v s. handed_grows ((source p).plain point) s) (inside t point is place r h) (λ v s fits hs answered. (fits, handed_on p i effects before ((source p).plain point) s hs))

  -- the parts in order, after values that are there
  pub parts_sound : (points : List Point) (ts : List Ground) → ArePoints p i effects points ts → (place : Loc) (done : List Value) (ds : List Ground) → FitEach p i done ds → (r : Run) → Happens p i effects before r
      → AreAnswered p (all_parts (source p) rec points place done r) → IsOutcome p i effects (λ values. FitEach p i values (ds ++ ts)) before (all_parts (source p) rec points place done r)
  parts_sound [] [] none place done ds fit r h answered = (subst (λ x. FitEach p i done x) (sym (append-nil ds)) fit, h)
  parts_sound [] (t ∷ ts) are place done ds fit r h answered = elim are [ ]
  parts_sound (point ∷ points) [] are place done ds fit r h answered = elim are [ ]
  parts_sound (point ∷ points) (t ∷ ts) (more is are) place done ds fit r h answered =
      then p i effects before (λ v. Fits p i v t) (λ values. FitEach p i values (ds ++ t ∷ ts)) (part (source p) rec point place r) _
      (λ v s. all_walk (source p) (List Entry) Runs Outs walk rec rec grow s.log points place (done ++ v ∷ []) s s (extends_itself s.log))
      (part_sound t point is place r h)
      (λ v s fits hs rest. subst (λ x. IsOutcome p i effects (λ values. FitEach p i values x) before (all_parts (source p) rec points place (done ++ v ∷ []) s)) (append_assoc ds (t ∷ []) ts)
      (parts_sound points ts are place (done ++ v ∷ []) (ds ++ t ∷ []) (fit_each_more p i done ds v t fit fits) s hs rest))
      answered

  -- a call from a place to a mark, which is the same wherever the body is evaluated
  call_sound : (P : Value → Type 0) (place mark : Loc) (callee : Callee) (args : List Value) (body : Loc → Run → Out Value)
      → ((at : Loc) (r : Run) → Happens p i effects before r → AreAnswered p (body at r) → IsOutcome p i effects P before (body at r))
      → (r : Run) → Happens p i effects before r → AreAnswered p (call_from place mark callee args body r) → IsOutcome p i effects P before (call_from place mark callee args body r)
  call_sound P Client Server callee args body is r h answered =
      then p i effects before P P (body Server (logs Enter (Called callee args) (step r))) _ (λ v s. event_grows s _) (is Server _ (passed p i effects before Enter tt _ _ h)) (λ v s fits hs rest. (fits, passed p i effects before Leave tt _ s hs)) answered
  call_sound P Server Client callee args body is r h answered =
      subst (λ x. AreAnswered p (client_call x callee args (body Client) (logs Leave (Called callee args) (step r))) → IsOutcome p i effects P before (client_call x callee args (body Client) (logs Leave (Called callee args) (step r)))) (sym h.whole)
      (then p i effects before P P (body Client (logs Leave (Called callee args) (step r))) _ (λ v s. event_grows s _) (is Client _ (passed p i effects before Leave tt _ _ h)) (λ v s fits hs rest. (fits, passed p i effects before Enter tt _ s hs)))
      answered
  call_sound P Client Client callee args body is r h answered = is Client r h answered
  call_sound P Client Any callee args body is r h answered = is Client r h answered
  call_sound P Server Server callee args body is r h answered = is Server r h answered
  call_sound P Server Any callee args body is r h answered = is Server r h answered
  call_sound P Any mark callee args body is r h answered = is Any r h answered

  -- a reading waits, or has an answer that fits
  reading_sound : (t : Ground) (site : ℕ) (args : List Value) → IsUse p i effects t (Reading site args) → (answers : List (List Row)) (r : Run) → Happens p i effects before r
      → AreAnswered p (reading site args answers r) → IsOutcome p i effects (λ v. Fits p i v t) before (reading site args answers r)
  reading_sound t site args (scans, reads, captured, fits) [] r h answered = ((scans, reads, captured), h)
  reading_sound t site args (scans, reads, captured, fits) (answer ∷ later) r h answered = (
    fits answer (answered_last p r.log _ answered),
    logged p i effects before (Read (record { site = site; args = args; answer = answer })) (scans, reads, captured) _ (record r { answers = later }) (record { whole = h.whole; more = h.more; log = h.log; allowed = h.allowed }),
  )

  used_sound : (t : Ground) (primitive : Primitive) → IsUse p i effects t primitive → (r : Run) → Happens p i effects before r → AreAnswered p (used primitive r) → IsOutcome p i effects (λ v. Fits p i v t) before (used primitive r)
  used_sound t (Printing bytes) (prints, is) r h answered = (subst (λ x. Fits p i unit_value x) (sym is) (unit_fits p i), logged p i effects before (Print bytes) prints _ r h)
  used_sound t (Reading site args) is r h answered = reading_sound t site args is r.answers r h answered
  used_sound t (Writing site args) (writes, writing, captured, is) r h answered =
      (subst (λ x. Fits p i unit_value x) (sym is) (unit_fits p i), logged p i effects before (Write (record { site = site; args = args })) (writes, writing, captured) _ r h)

  joined_sound : (a : Ground) (at : Span) (made : List Value) → AllFit p i made a → (found : Option (List Value)) (values : List Value) → found ≡ Some values → AllFit p i values a
      → (next : List Value → Run → Out Value) (r : Run) → Happens p i effects before r
      → ((all : List Value) → AllFit p i all a → AreAnswered p (next all r) → IsOutcome p i effects (λ v. Fits p i v (known.List a)) before (next all r))
      → AreAnswered p (joined at made found next r) → IsOutcome p i effects (λ v. Fits p i v (known.List a)) before (joined at made found next r)
  joined_sound a at made fit found values is fits next r h go =
      subst (λ x. AreAnswered p (joined at made x next r) → IsOutcome p i effects (λ v. Fits p i v (known.List a)) before (joined at made x next r)) (sym is) (go (made ++ values) (all_fit_both p i made values a fit fits))

  -- the bodies in order, after the list made so far
  each_sound : (a : Ground) (at : Span) (points : List Point) → Each (IsPoint p i effects (known.List a)) points → (place : Loc) (made : List Value) → AllFit p i made a → (r : Run) → Happens p i effects before r
      → AreAnswered p (each (source p) rec at points place made r) → IsOutcome p i effects (λ v. Fits p i v (known.List a)) before (each (source p) rec at points place made r)
  each_sound a at [] tt place made fit r h answered = (list_fits p i made a fit, h)
  each_sound a at (point ∷ points) (is, are) place made fit r h answered =
      then p i effects before (λ v. Fits p i v (known.List a)) (λ v. Fits p i v (known.List a)) (part (source p) rec point place r) _
      (λ v s. joined_grows at made (list_in v) (each (source p) rec at points place) s (λ all. each_walks (source p) (List Entry) Runs Outs walk rec rec grow s.log at points place all s s (extends_itself s.log)))
      (part_sound (known.List a) point is place r h)
      (λ v s fits hs rest.
      let found : (values : List Value) × (list_in v ≡ Some values) × AllFit p i values a = list_of_fits p i v a fits in
      joined_sound a at made fit (list_in v) found.0 found.1 found.2 _ s hs (λ all fit_all. each_sound a at points are place all fit_all s hs) rest)
      answered

  pub perform_sound : (t : Ground) (place : Loc) (act : Act Point) → IsAct p i effects t act → (r : Run) → Happens p i effects before r → AreAnswered p (perform (source p) rec place act r) → IsOutcome p i effects (λ v. Fits p i v t) before (perform (source p) rec place act r)
  perform_sound t place (Give v) is r h answered = (is, h)
  perform_sound t place (Tail point) is r h answered = inside t point is place r h answered
  perform_sound t place (Goto mark f args body) is r h answered = call_sound (λ v. Fits p i v t) place mark _ args (rec body) (λ at s hs. inside t body is at s hs) r h answered
  perform_sound t place (Uses mark primitive) is r h answered = call_sound (λ v. Fits p i v t) place mark _ _ (λ _. used primitive) (λ at s hs. used_sound t primitive is s hs) r h answered
  perform_sound t place (EachOf at bodies) (a, same, are) r h answered =
      subst (λ x. IsOutcome p i effects (λ v. Fits p i v x) before (each (source p) rec at bodies place [] r)) (sym same)
      (each_sound a at bodies (subst (λ x. Each (IsPoint p i effects x) bodies) same are) place [] no_value r h answered)
  perform_sound t place (Fails trap) is r h answered = (is, h)
  perform_sound t place (Lacks at) never r h answered = absurd never

  -- a point that was entered
  pub node_sound : (t : Ground) (point : Point) → IsNode p i effects t point → (place : Loc) (r : Run) → Happens p i effects before r → AreAnswered p (node (source p) rec point place r) → IsOutcome p i effects (λ v. Fits p i v t) before (node (source p) rec point place r)
  node_sound t point is place r h answered =
      then p i effects before (λ values. FitEach p i values is.types) (λ v. Fits p i v t) (all_parts (source p) rec ((source p).parts point) place [] r) _
      (λ values s. perform_walks (source p) (List Entry) Runs Outs walk rec rec grow s.log place ((source p).act point values) s s (extends_itself s.log))
      (parts_sound ((source p).parts point) is.types is.parts place [] [] none_left r h)
      (λ values s fits hs rest. perform_sound t place ((source p).act point values) (is.acts values fits) s hs rest)
      answered
