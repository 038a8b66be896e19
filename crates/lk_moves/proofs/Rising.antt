-- An evaluation only gets later.
use Rattle.std.proofs.Common.{◌≡◌, ℕ, zero, suc, ◌+◌, ◌≤◌, List, [], ◌∷◌, ◌++◌, sym, ◌∙◌, ap, subst, arith, append_assoc, append-nil}
use Rattle.std.specs.Prelude.{Bool, true, false, Option, Some, None, length, drop, slice_get}
use Rattle.lk_ast.specs.declared.event.Event.{Event}
use Rattle.lk_ast.specs.declared.event.Event.TheVariants.{Leave}
use Rattle.lk_ast.specs.declared.place.Loc.{Loc}
use Rattle.lk_ast.specs.declared.place.Loc.TheVariants.{Client, Server, Any}
use Rattle.lk_ast.specs.declared.place.Span.{Span}
use Rattle.lk_ast.specs.declared.table.Row.{Row}
use Rattle.lk_ast.specs.declared.value.Value.{Value}
use Rattle.lk_evaluation.proofs.Fixpoint.{eval_is}
use Rattle.lk_evaluation.proofs.Walk.{Keeps, Walk, all_walk, each_walks, node_walks, perform_walks}
use Rattle.lk_evaluation.specs.Evaluation.{Language, all_parts, client_call, each, eval, eval_to, handed, joined, node, perform, reading}
use Rattle.lk_evaluation.specs.Laws.{run_of}
use Rattle.lk_evaluation.specs.Run.{Run, Entry, Out, Goes, Stops, and_then, step, logs, enter_with, Callee, Crossing, Called}
use Rattle.lk_operators.specs.Values.{list_in}
use Rattle.lk_moves.specs.Frames.{Frame, Part, Turn, Back, continued, handed_by, resumed, returned, wound}
use Rattle.lk_moves.specs.Later.{Later, Reaches, Rise}
use Rattle.lk_moves.specs.Laws.{LaterLaw}

-- ---- numbers that rise

rise_further : (n : ℕ) (log : List Entry) (m k : ℕ) → m ≤ k → Rise n log m → Rise n log k
rise_further n [] m k le rise = omega (arith, rise)
rise_further n (entry ∷ log) m k le rise = (rise.0, rise_further entry.number log m k le rise.1)

rise_at_end : (n : ℕ) (log : List Entry) (m : ℕ) (event : Event) (what : Crossing) → Rise n log m → Rise n (log ++ record { number = m; event = event; crossing = what } ∷ []) m
rise_at_end n [] m event what rise = (rise, let e : m ≤ m = omega arith in e)
rise_at_end n (entry ∷ log) m event what rise = (rise.0, rise_at_end entry.number log m event what rise.1)

rise_both : (n : ℕ) (log : List Entry) (m : ℕ) (others : List Entry) (k : ℕ) → Rise n log m → Rise m others k → Rise n (log ++ others) k
rise_both n [] m [] k rise others = omega (arith, rise, others)
rise_both n [] m (entry ∷ more) k rise others = (let e : n ≤ entry.number = omega (arith, rise, others.0) in e, others.1)
rise_both n (entry ∷ log) m others k rise more = (rise.0, rise_both entry.number log m others k rise.1 more)

-- what is later than a run that was reached is reached
pub reaches_on : (first : ℕ) (log : List Entry) (r s : Run) → Reaches first log r → Reaches r.steps r.log s → Reaches first log s
reaches_on first log r s h g = record {
  more = h.more ++ g.more;
  logged = g.logged ∙ ap (λ all. all ++ g.more) h.logged ∙ append_assoc log h.more g.more;
  rise = rise_both first h.more r.steps g.more s.steps h.rise g.rise;
}

-- an index: the first number, and the log that there was
record Begun : Type 0 where
  first : ℕ
  log : List Entry

abbrev Runs : Begun → Run → Run → Type 0
Runs i r s = Reaches i.first i.log s

abbrev Outs : Begun → (A : Type 0) → Out A → Out A → Type 0
Outs i A o p = Reaches i.first i.log (run_of p)

abbrev begun : ℕ → Run → Begun
begun n r = record { first = n; log = r.log }

stepped : (i : Begun) (r : Run) → Reaches i.first i.log r → Reaches i.first i.log (step r)
stepped i r h = record { more = h.more; logged = h.logged; rise = rise_further i.first h.more r.steps (r.steps + 1) (let e : r.steps ≤ r.steps + 1 = omega arith in e) h.rise }

with_entry : (i : Begun) (event : Event) (what : Crossing) (r : Run) → Reaches i.first i.log r → Reaches i.first i.log (logs event what r)
with_entry i event what r h =
    let entry : Entry = record { number = r.steps; event = event; crossing = what } in
    record { more = h.more ++ entry ∷ []; logged = ap (λ log. log ++ entry ∷ []) h.logged ∙ append_assoc i.log h.more (entry ∷ []); rise = rise_at_end i.first h.more r.steps event what h.rise }

-- ---- each rule

then_reaches : (i : Begun) {A B : Type 0} (p : Out A) (k : A → Run → Out B) → Reaches i.first i.log (run_of p) → ((a : A) (s : Run) → Reaches i.first i.log s → Reaches i.first i.log (run_of (k a s))) → Reaches i.first i.log (run_of (and_then p k))
then_reaches i (Goes a s) k h next = next a s h
then_reaches i (Stops t s) k h next = h

reading_reaches : (i : Begun) (site : ℕ) (args : List Value) (answers : List (List Row)) (s : Run) → Reaches i.first i.log s → Reaches i.first i.log (run_of (reading site args answers s))
reading_reaches i site args [] s h = h
reading_reaches i site args (answer ∷ later) s h = with_entry i _ _ (record s { answers = later }) (record { more = h.more; logged = h.logged; rise = h.rise })

call_reaches : (i : Begun) (returns : Option (List Value)) (c : Callee) (args : List Value) (k : Run → Out Value) → ((s : Run) → Reaches i.first i.log s → Reaches i.first i.log (run_of (k s))) → (s : Run) → Reaches i.first i.log s
    → Reaches i.first i.log (run_of (client_call returns c args k s))
call_reaches i None c args k next s h = then_reaches i (k s) _ (next s h) (λ v t g. with_entry i _ _ (step t) (stepped i t g))
call_reaches i (Some []) c args k next s h = h
call_reaches i (Some (v ∷ later)) c args k next s h = with_entry i _ _ (step (record s { returns = Some later })) (stepped i (record s { returns = Some later }) (record { more = h.more; logged = h.logged; rise = h.rise }))

enter_reaches : (i : Begun) (fuel : ℕ) (s : Run) (k : Run → Out Value) → Reaches i.first i.log s → ((t : Run) → Reaches i.first i.log t → Reaches i.first i.log (run_of (k t))) → Reaches i.first i.log (run_of (enter_with fuel s k))
enter_reaches i zero s k h next = h
enter_reaches i (suc n) s k h next = next (record s { fuel = n; steps = s.steps + 1 }) (let g = stepped i s h in record { more = g.more; logged = g.logged; rise = g.rise })

walk : Walk Begun Runs Outs
walk = record {
  goes = λ i A a r s h. h;
  fails = λ i t r s h. h;
  lacks = λ i t r s h. h;
  steps = λ i r s h. stepped i s h;
  logged = λ i event what r s h. with_entry i event what s h;
  reads = λ i site args r s h. reading_reaches i site args s.answers s h;
  calls = λ i c args b k next r s h. call_reaches i s.returns c args k (λ t g. next i t t g) (logs Leave (Called c args) (step s)) (with_entry i _ _ (step s) (stepped i s h));
  then = λ i A B o p j k h next. then_reaches i p k h (λ a s g. next i a s s g);
}

-- ---- evaluation

from_here : (r : Run) (n : ℕ) → n ≤ r.steps → Reaches n r.log r
from_here r n le = record { more = []; logged = sym (append-nil r.log); rise = le }

module _ (l : Language) where
  reaches_to : (d : ℕ) → Keeps l Begun Runs Outs (eval_to d l) (eval_to d l)
  unfolding eval_to
  reaches_to zero i e place r s h = h
  reaches_to (suc d) i e place r s h = enter_reaches i s.fuel s (node l (eval_to d l) e place) h (λ t g. node_walks l Begun Runs Outs walk (eval_to d l) (eval_to d l) (reaches_to d) i e place t t g)

  reaches : Keeps l Begun Runs Outs (eval l) (eval l)
  reaches i e place r s h = reaches_to s.fuel i e place s s h

  pub evaluated : (e : l.Point) (place : Loc) (r : Run) → Later r.steps r (eval l e place r)
  evaluated e place r = reaches (begun r.steps r) e place r r (from_here r r.steps (let e : r.steps ≤ r.steps = omega arith in e))

  -- with fuel it takes a step first
  pub entered : (e : l.Point) (place : Loc) (r : Run) (left : ℕ) → r.fuel ≡ suc left → Later (r.steps + 1) r (eval l e place r)
  entered e place r left is =
      let s : Run = record r { fuel = left; steps = r.steps + 1 } in
      let i : Begun = begun (r.steps + 1) r in
      let same : eval l e place r ≡ node l (eval l) e place s = eval_is l e place r ∙ ap (λ m. enter_with m r (node l (eval l) e place)) is in
      subst (λ out. Reaches i.first i.log (run_of out)) (sym same)
      (node_walks l Begun Runs Outs walk (eval l) (eval l) reaches i e place s s (from_here s (r.steps + 1) (let e : r.steps + 1 ≤ r.steps + 1 = omega arith in e)))

  -- ---- frames

  handed_reaches : (i : Begun) (plain : Bool) (r : Run) → Reaches i.first i.log r → Reaches i.first i.log (handed plain r)
  handed_reaches i true r h = h
  handed_reaches i false r h = stepped i r h

  handed_by_reaches : (i : Begun) (o : Option l.Point) (r : Run) → Reaches i.first i.log r → Reaches i.first i.log (handed_by l o r)
  handed_by_reaches i None r h = h
  handed_by_reaches i (Some e) r h = handed_reaches i (l.plain e) r h

  returned_reaches : (i : Begun) (place : Loc) (v : Value) (r : Run) → Reaches i.first i.log r → Reaches i.first i.log (run_of (returned place v r))
  returned_reaches i Client v r h = with_entry i _ _ (step r) (stepped i r h)
  returned_reaches i Server v r h = with_entry i _ _ (step r) (stepped i r h)
  returned_reaches i Any v r h = h

  joined_reaches : (i : Begun) (at : Span) (made : List Value) (o : Option (List Value)) (k : List Value → Run → Out Value) (r : Run) → Reaches i.first i.log r → ((all : List Value) → Reaches i.first i.log (run_of (k all r))) → Reaches i.first i.log (run_of (joined at made o k r))
  joined_reaches i at made None k r h next = h
  joined_reaches i at made (Some values) k r h next = next (made ++ values)

  resumed_reaches : (i : Begun) (e : l.Point) (done : List Value) (place : Loc) (s : Run) → Reaches i.first i.log s → Reaches i.first i.log (run_of (resumed l e done place s))
  resumed_reaches i e done place s h =
      then_reaches i (all_parts l (eval l) (drop (length done) (l.parts e)) place done s) (λ values t. perform l (eval l) place (l.act e values) t)
      (all_walk l Begun Runs Outs walk (eval l) (eval l) reaches i (drop (length done) (l.parts e)) place done s s h)
      (λ values t g. perform_walks l Begun Runs Outs walk (eval l) (eval l) reaches i place (l.act e values) t t g)

  turned_reaches : (i : Begun) (at : Span) (left : List l.Point) (place : Loc) (made : List Value) (o : Option (List Value)) (s : Run) → Reaches i.first i.log s → Reaches i.first i.log (run_of (joined at made o (each l (eval l) at left place) s))
  turned_reaches i at left place made o s h = joined_reaches i at made o (each l (eval l) at left place) s h (λ all. each_walks l Begun Runs Outs walk (eval l) (eval l) reaches i at left place all s s h)

  -- from here on
  pub resumed_later : (e : l.Point) (done : List Value) (place : Loc) (s : Run) → Later s.steps s (resumed l e done place s)
  resumed_later e done place s = resumed_reaches (begun s.steps s) e done place s (from_here s s.steps (let e : s.steps ≤ s.steps = omega arith in e))

  pub turned_later : (at : Span) (left : List l.Point) (place : Loc) (made : List Value) (o : Option (List Value)) (s : Run) → Later s.steps s (joined at made o (each l (eval l) at left place) s)
  turned_later at left place made o s = turned_reaches (begun s.steps s) at left place made o s (from_here s s.steps (let e : s.steps ≤ s.steps = omega arith in e))

  continued_reaches : (i : Begun) (frame : Frame l.Point) (v : Value) (r : Run) → Reaches i.first i.log r → Reaches i.first i.log (run_of (continued l frame v r))
  continued_reaches i (Part e done place) v r h =
      resumed_reaches i e (done ++ v ∷ []) place (handed_by l (slice_get (l.parts e) (length done)) r) (handed_by_reaches i (slice_get (l.parts e) (length done)) r h)
  continued_reaches i (Turn at body left place made) v r h =
      turned_reaches i at left place made (list_in v) (handed (l.plain body) r) (handed_reaches i (l.plain body) r h)
  continued_reaches i (Back place) v r h = returned_reaches i place v r h

  wound_reaches : (i : Begun) (frames : List (Frame l.Point)) (out : Out Value) → Reaches i.first i.log (run_of out) → Reaches i.first i.log (run_of (wound l frames out))
  wound_reaches i [] out h = h
  wound_reaches i (frame ∷ frames) out h = then_reaches i (wound l frames out) (continued l frame) (wound_reaches i frames out h) (λ v s g. continued_reaches i frame v s g)

  pub later_law : LaterLaw l
  later_law = record { evaluated = evaluated; entered = entered; wound_later = λ frames first r out later. wound_reaches (begun first r) frames out later }
