-- A whole evaluation without answers reads nothing, and only adds to its log.
use Rattle.std.proofs.Common.{◌≡◌, ℕ, zero, suc, ◌+◌, List, [], ◌∷◌, ◌++◌, refl, sym, ◌∙◌, ap, subst, append_assoc, append-nil}
use Rattle.std.specs.Prelude.{Bool, true, false, Option, Some, None, map}
use Rattle.lk_ast.specs.declared.declaration.Program.{Program}
use Rattle.lk_ast.specs.declared.event.Event.{Event}
use Rattle.lk_ast.specs.declared.event.Event.TheVariants.{Print, Enter, Leave, Read, Write}
use Rattle.lk_ast.specs.declared.place.Loc.{Loc}
use Rattle.lk_ast.specs.declared.place.Loc.TheVariants.{Client, Server, Any}
use Rattle.lk_ast.specs.declared.place.Span.{Span}
use Rattle.lk_ast.specs.declared.table.Row.{Row}
use Rattle.lk_ast.specs.declared.value.Value.{Value}
use Rattle.lk_evaluation.specs.Evaluation.{Primitive, Printing, Reading, Writing, Act, Give, Tail, Goto, Uses, Each as EachOf, Fails, Lacks, Language, Evaluates, handed, client_call, call_from, reading, used, joined, part, all_parts, each, perform, node, eval_to, eval}
use Rattle.lk_evaluation.specs.Laws.{run_of}
use Rattle.lk_evaluation.specs.Run.{Run, Entry, Out, Goes, Stops, Stop, and_then, step, logs, enter_with, Callee, Crossing, Within, Called, Returned}
use Rattle.lk_evaluation.specs.Source.{source}
use Rattle.lk_operators.specs.Values.{list_in}
use Rattle.lk_types.proofs.Members.{each_both}
use Rattle.lk_types.specs.Each.{Each}
use Rattle.lk_sem.specs.Frames.{Frame, Part, Turn, Back, continued, handed_by, rest, resumed, returned, wound}
use Rattle.lk_sem.specs.Machine as machine
use Rattle.lk_sem.specs.declared.machine.Frame as now_frame
use Rattle.lk_sem.specs.declared.machine.Next.{Next}
use Rattle.lk_sem.specs.declared.machine.Next.TheVariants as next

-- no reading
abbrev pub IsUnread : Event → Type 0
IsUnread (Print bytes) = Unit {0}
IsUnread Enter = Unit {0}
IsUnread Leave = Unit {0}
IsUnread (Read e) = ⊥
IsUnread (Write e) = Unit {0}

abbrev Silent : Entry → Type 0
Silent entry = IsUnread entry.event

-- the run is of a whole evaluation and has no answers, and behind that log is no reading
pub record Kept (log : List Entry) (s : Run) : Type 0 where
  pub whole : s.returns ≡ None
  pub none : s.answers ≡ []
  pub more : List Entry
  pub is : s.log ≡ log ++ more
  pub unread : Each Silent more

-- the same of where an evaluation ends
pub record Keeping (log : List Entry) {A : Type 0} (o : Out A) : Type 0 where
  pub kept : Kept log (run_of o)

module _ (log : List Entry) where
  abbrev Keeps : {A : Type 0} → Out A → Type 0
  Keeps o = Keeping log o

  goes : {A : Type 0} (a : A) (s : Run) → Kept log s → Keeps (Goes a s)
  goes a s h = record { kept = h }

  stops : {A : Type 0} (t : Stop) (s : Run) → Kept log s → Keeping log {A = A} (Stops t s)
  stops t s h = record { kept = h }

  pub kept_itself : (s : Run) → s.returns ≡ None → s.answers ≡ [] → s.log ≡ log → Kept log s
  kept_itself s whole none is = record { whole = whole; none = none; more = []; is = is ∙ sym (append-nil log); unread = tt }

  step_keeps : (s : Run) → Kept log s → Kept log (step s)
  step_keeps s h = record { whole = h.whole; none = h.none; more = h.more; is = h.is; unread = h.unread }

  logs_keep : (e : Event) → IsUnread e → (what : Crossing) (s : Run) → Kept log s → Kept log (logs e what s)
  logs_keep e calm what s h =
      let entry : Entry = record { number = s.steps; event = e; crossing = what } in
      record { whole = h.whole; none = h.none; more = h.more ++ entry ∷ []; is = ap (λ q. q ++ entry ∷ []) h.is ∙ append_assoc log h.more (entry ∷ []); unread = each_both Silent h.more (entry ∷ []) h.unread (calm, tt) }

  then_keeps : {A B : Type 0} (o : Out A) (k : A → Run → Out B) → Keeps o → ((a : A) (s : Run) → Kept log s → Keeps (k a s)) → Keeps (and_then o k)
  then_keeps (Goes a s) k h kk = kk a s h.kept
  then_keeps (Stops t s) k h kk = stops t s h.kept

  handed_keeps : (plain : Bool) (s : Run) → Kept log s → Kept log (handed plain s)
  handed_keeps true s h = h
  handed_keeps false s h = step_keeps s h

  reading_keeps : (site : ℕ) (args : List Value) (answers : List (List Row)) (s : Run) → answers ≡ [] → Kept log s → Keeps (reading site args answers s)
  reading_keeps site args [] s none h = stops _ s h
  reading_keeps site args (answer ∷ later) s none h = absurd cc

  used_keeps : (primitive : Primitive) (s : Run) → Kept log s → Keeps (used primitive s)
  used_keeps (Printing bytes) s h = goes _ _ (logs_keep (Print bytes) tt Within s h)
  used_keeps (Reading site args) s h = reading_keeps site args s.answers s h.none h
  used_keeps (Writing site args) s h = goes _ _ (logs_keep (Write (record { site = site; args = args })) tt Within s h)

  returned_keeps : (place : Loc) (v : Value) (s : Run) → Kept log s → Keeps (returned place v s)
  returned_keeps Client v s h = goes _ _ (logs_keep Leave tt (Returned v) (step s) (step_keeps s h))
  returned_keeps Server v s h = goes _ _ (logs_keep Enter tt (Returned v) (step s) (step_keeps s h))
  returned_keeps Any v s h = goes _ _ h

  client_keeps : (returns : Option (List Value)) (c : Callee) (args : List Value) (body : Run → Out Value) (s : Run) → returns ≡ None → ((t : Run) → Kept log t → Keeps (body t)) → Kept log s → Keeps (client_call returns c args body s)
  client_keeps None c args body s none bk h = then_keeps (body s) _ (bk s h) (λ v t k. goes _ _ (logs_keep Enter tt (Returned v) (step t) (step_keeps t k)))
  client_keeps (Some returns) c args body s none bk h = absurd cc

  call_keeps : (place mark : Loc) (c : Callee) (args : List Value) (body : Loc → Run → Out Value) → ((at : Loc) (t : Run) → Kept log t → Keeps (body at t)) → (s : Run) → Kept log s → Keeps (call_from place mark c args body s)
  call_keeps Client Server c args body bk s h =
      then_keeps _ _ (bk Server _ (logs_keep Enter tt (Called c args) (step s) (step_keeps s h))) (λ v t k. goes _ _ (logs_keep Leave tt (Returned v) (step t) (step_keeps t k)))
  call_keeps Server Client c args body bk s h = client_keeps s.returns c args (body Client) _ h.whole (bk Client) (logs_keep Leave tt (Called c args) (step s) (step_keeps s h))
  call_keeps Client Client c args body bk s h = bk Client s h
  call_keeps Client Any c args body bk s h = bk Client s h
  call_keeps Server Server c args body bk s h = bk Server s h
  call_keeps Server Any c args body bk s h = bk Server s h
  call_keeps Any mark c args body bk s h = bk Any s h

  joined_keeps : (at : Span) (made : List Value) (o : Option (List Value)) (k : List Value → Run → Out Value) (s : Run) → Kept log s → ((all : List Value) → Keeps (k all s)) → Keeps (joined at made o k s)
  joined_keeps at made None k s h kk = stops _ s h
  joined_keeps at made (Some values) k s h kk = kk (made ++ values)

  module _ (l : Language) (f : Evaluates l.Point) (fk : (e : l.Point) (place : Loc) (s : Run) → Kept log s → Keeps (f e place s)) where
    part_keeps : (e : l.Point) (place : Loc) (s : Run) → Kept log s → Keeps (part l f e place s)
    part_keeps e place s h = then_keeps (f e place s) _ (fk e place s h) (λ v t k. goes _ _ (handed_keeps (l.plain e) t k))

    all_keep : (es : List l.Point) (place : Loc) (done : List Value) (s : Run) → Kept log s → Keeps (all_parts l f es place done s)
    all_keep [] place done s h = goes _ _ h
    all_keep (e ∷ es) place done s h = then_keeps _ _ (part_keeps e place s h) (λ v t k. all_keep es place (done ++ v ∷ []) t k)

    each_keep : (at : Span) (es : List l.Point) (place : Loc) (made : List Value) (s : Run) → Kept log s → Keeps (each l f at es place made s)
    each_keep at [] place made s h = goes _ _ h
    each_keep at (e ∷ es) place made s h = then_keeps _ _ (part_keeps e place s h) (λ u t k. joined_keeps at made (list_in u) _ t k (λ all. each_keep at es place all t k))

    perform_keeps : (place : Loc) (a : Act l.Point) (s : Run) → Kept log s → Keeps (perform l f place a s)
    perform_keeps place (Give v) s h = goes _ _ h
    perform_keeps place (Tail e) s h = fk e place s h
    perform_keeps place (Goto mark x args body) s h = call_keeps place mark _ args _ (λ at t k. fk body at t k) s h
    perform_keeps place (Uses mark primitive) s h = call_keeps place mark _ _ _ (λ at t k. used_keeps primitive t k) s h
    perform_keeps place (EachOf at es) s h = each_keep at es place [] s h
    perform_keeps place (Fails trap) s h = stops _ _ h
    perform_keeps place (Lacks at) s h = stops _ _ h

    node_keeps : (e : l.Point) (place : Loc) (s : Run) → Kept log s → Keeps (node l f e place s)
    node_keeps e place s h = then_keeps _ _ (all_keep (l.parts e) place [] s h) (λ values t k. perform_keeps place (l.act e values) t k)

  enter_keeps : (fuel : ℕ) (s : Run) (body : Run → Out Value) → Kept log s → ((t : Run) → Kept log t → Keeps (body t)) → Keeps (enter_with fuel s body)
  enter_keeps zero s body h bk = stops _ s h
  enter_keeps (suc left) s body h bk = bk (record s { fuel = left; steps = s.steps + 1 }) (record { whole = h.whole; none = h.none; more = h.more; is = h.is; unread = h.unread })

  module _ (l : Language) where
    eval_to_keeps : (d : ℕ) (e : l.Point) (place : Loc) (s : Run) → Kept log s → Keeps (eval_to d l e place s)
    unfolding eval_to
    eval_to_keeps zero e place s h = stops _ s h
    eval_to_keeps (suc d) e place s h = enter_keeps s.fuel s (node l (eval_to d l) e place) h (λ t k. node_keeps l (eval_to d l) (eval_to_keeps d) e place t k)

    eval_keeps : (e : l.Point) (place : Loc) (s : Run) → Kept log s → Keeps (eval l e place s)
    eval_keeps e place s h = eval_to_keeps s.fuel e place s h

    by_keeps : (o : Option l.Point) (s : Run) → Kept log s → Kept log (handed_by l o s)
    by_keeps None s h = h
    by_keeps (Some e) s h = handed_keeps (l.plain e) s h

    rest_keeps : (left : List l.Point) (e : l.Point) (place : Loc) (done : List Value) (s : Run) → Kept log s → Keeps (rest l left e place done s)
    rest_keeps left e place done s h = then_keeps _ _ (all_keep l (eval l) eval_keeps left place done s h) (λ values t k. perform_keeps l (eval l) eval_keeps place (l.act e values) t k)

    frame_keeps : (frame : Frame l.Point) (v : Value) (s : Run) → Kept log s → Keeps (continued l frame v s)
    frame_keeps (Part e done place) v s h = rest_keeps _ e place (done ++ v ∷ []) _ (by_keeps _ s h)
    frame_keeps (Turn at body left place made) v s h =
        let k = handed_keeps (l.plain body) s h in
        joined_keeps at made (list_in v) _ _ k (λ all. each_keep l (eval l) eval_keeps at left place all _ k)
    frame_keeps (Back place) v s h = returned_keeps place v s h

    wound_keeps : (fs : List (Frame l.Point)) (o : Out Value) → Keeps o → Keeps (wound l fs o)
    wound_keeps [] o h = h
    wound_keeps (frame ∷ fs) o h = then_keeps _ _ (wound_keeps fs o h) (λ v s k. frame_keeps frame v s k)

  -- what a machine's state comes to
  module _ (p : Program) where
    outcome_keeps : (n : Next) (s : Run) → Kept log s → Keeps (machine.outcome p n s)
    outcome_keeps (next.Enter e scope place) s h = eval_keeps (source p) _ place s h
    outcome_keeps (next.Give v) s h = goes _ _ h
    outcome_keeps (next.Read back site args) s h = then_keeps _ _ (used_keeps (Reading site args) s h) (returned_keeps back)
    outcome_keeps (next.Write back site args) s h = then_keeps _ _ (used_keeps (Writing site args) s h) (returned_keeps back)
    outcome_keeps (next.Stop halt) s h = stops _ _ h

    pub state_keeps : (fs : List now_frame.Frame) (n : Next) (s : Run) → Kept log s → Keeps (machine.wound p fs (machine.outcome p n s))
    state_keeps fs n s h = wound_keeps (source p) (map machine.frame_of fs) _ (outcome_keeps n s h)

    -- the same of a value that goes back
    pub back_keeps : (fs : List now_frame.Frame) (back : Loc) (v : Value) (s : Run) → Kept log s → Keeps (machine.wound p fs (returned back v s))
    back_keeps fs back v s h = wound_keeps (source p) (map machine.frame_of fs) _ (returned_keeps back v s h)
