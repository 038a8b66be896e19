-- A session only gets later, and takes its own steps first.
use Rattle.std.proofs.Common.{◌≡◌, ℕ, ◌+◌, ◌≤◌, ◌⊎◌, inl, inr, List, [], ◌∷◌, ◌++◌, refl, sym, ap, arith, append-nil}
use Rattle.std.specs.Prelude.{Option, Some, None}
use Rattle.lk_ast.specs.declared.event.Event.{Event}
use Rattle.lk_ast.specs.declared.event.Event.TheVariants.{Enter, Leave}
use Rattle.lk_ast.specs.declared.place.Loc.TheVariants.{Client, Server}
use Rattle.lk_ast.specs.declared.value.Value.{Value}
use Rattle.lk_evaluation.specs.Evaluation.{call_from, client_call}
use Rattle.lk_evaluation.specs.Laws.{run_of}
use Rattle.lk_evaluation.specs.Run.{Called, Callee, Crossing, Entry, Goes, Out, Returned, Run, Spent, Stops, and_then, logs, step}
use Rattle.lk_moves.specs.Courses.{Evaluation}
use Rattle.lk_moves.specs.Later.{Later, Reaches, Rise}
use Rattle.lk_moves.specs.Meaning.{Meaning}
use Rattle.lk_moves.proofs.Rising.{reaches_on}
use Rattle.lk_course.specs.Counting.{StepsFirst}
use Rattle.lk_course.specs.Laws.{LaterLaw, LogsFirst, OnlyLater}
use Rattle.lk_course.specs.Standing.{Asks, Calls, Kept, Reply, Request, Resumes, Returns, Traps, crossing_of, enters, here, kept_rest, leaves, replied, requested, visited, waiting}

-- ---- numbers that rise

rise_earlier : (n m : ℕ) (log : List Entry) (last : ℕ) → n ≤ m → Rise m log last → Rise n log last
rise_earlier n m [] last le rise = omega (arith, le, rise)
rise_earlier n m (entry ∷ log) last le rise = (omega (arith, le, rise.0), rise.1)

pub rise_over : (n : ℕ) (log : List Entry) (last : ℕ) → Rise n log last → n ≤ last
rise_over n [] last rise = rise
rise_over n (entry ∷ log) last rise = let later = rise_over entry.number log last rise.1 in omega (arith, rise.0, later)

rise_append : (n : ℕ) (log : List Entry) (m : ℕ) (more : List Entry) (last : ℕ) → Rise n log m → Rise m more last → Rise n (log ++ more) last
rise_append n [] m more last first second = rise_earlier n m more last first second
rise_append n (entry ∷ log) m more last first second = (first.0, rise_append entry.number log m more last first.1 second)

-- ---- one behind another

module _ (n : ℕ) (log : List Entry) where
  abbrev Gets : Out Value → Type 0
  Gets out = Reaches n log (run_of out)

  pub then_reaches : (out : Out Value) (k : Value → Evaluation) → Gets out → ((v : Value) (s : Run) → Later s.steps s (k v s)) → Gets (and_then out k)
  then_reaches (Goes v s) k gets later = reaches_on n log s (run_of (k v s)) gets (later v s)
  then_reaches (Stops stop s) k gets later = gets

pub at_once : (r : Run) → Reaches r.steps r.log r
at_once r = record { more = []; logged = sym (append-nil r.log); rise = let e : r.steps ≤ r.steps = omega arith in e }

with_entry : (event : Event) (crossing : Crossing) (r : Run) → Reaches r.steps r.log (logs event crossing r)
with_entry event crossing r =
    let same : r.steps ≤ r.steps = omega arith in
    record { more = record { number = r.steps; event = event; crossing = crossing } ∷ []; logged = refl; rise = (same, same) }

-- an event behind a step
with_step : (event : Event) (crossing : Crossing) (r : Run) → Reaches (r.steps + 1) r.log (logs event crossing (step r))
with_step event crossing r =
    let same : r.steps + 1 ≤ r.steps + 1 = omega arith in
    record { more = record { number = r.steps + 1; event = event; crossing = crossing } ∷ []; logged = refl; rise = (same, same) }

-- a step later is later
a_step : (r : Run) (out : Out Value) → Later (r.steps + 1) r out → Later r.steps r out
a_step r out later = record { more = later.more; logged = later.logged; rise = rise_earlier r.steps (r.steps + 1) later.more (run_of out).steps (let e : r.steps ≤ r.steps + 1 = omega arith in e) later.rise }

enters_later : (v : Value) (r : Run) → Later r.steps r (enters v r)
enters_later v r = a_step r (enters v r) (with_step Enter (Returned v) r)

leaves_later : (v : Value) (r : Run) → Later r.steps r (leaves v r)
leaves_later v r = a_step r (leaves v r) (with_step Leave (Returned v) r)

-- what takes a step first, or has no fuel for it, does so with anything behind it
first_then : (now : Evaluation) (k : Value → Evaluation) → ((v : Value) (s : Run) → Later s.steps s (k v s)) → StepsFirst now → StepsFirst (λ r. and_then (now r) k)
first_then now k later steps r = either (steps r)
  where
    either : Later (r.steps + 1) r (now r) ⊎ (now r ≡ Stops Spent r) → Later (r.steps + 1) r (and_then (now r) k) ⊎ (and_then (now r) k ≡ Stops Spent r)
    either (inl first) = inl (then_reaches (r.steps + 1) r.log (now r) k first later)
    either (inr spent) = inr (ap (λ out. and_then out k) spent)

module _ {Frame : Type 0} (m : Meaning Frame) (only : OnlyLater m) where
  kept_later : (ks : List (Kept Frame)) (v : Value) (r : Run) → Later r.steps r (kept_rest m ks v r)
  kept_later [] v r = at_once r
  kept_later (k ∷ ks) v r =
      let client : Value → Evaluation = λ x q. and_then (m.rest k.client Client x q) (kept_rest m ks) in
      let left : Value → Evaluation = λ u t. and_then (leaves u t) client in
      let served : Value → Evaluation = λ w s. and_then (m.rest k.server Server w s) left in
      then_reaches r.steps r.log (enters v r) served (enters_later v r)
      (λ w s. then_reaches s.steps s.log (m.rest k.server Server w s) left (only.frames k.server Server w s)
      (λ u t. then_reaches t.steps t.log (leaves u t) client (leaves_later u t)
      (λ x q. then_reaches q.steps q.log (m.rest k.client Client x q) (kept_rest m ks) (only.frames k.client Client x q) (kept_later ks))))

  here_later : (ks : List (Kept Frame)) (now : Evaluation) → ((r : Run) → Later r.steps r (now r)) → (r : Run) → Later r.steps r (here m ks now r)
  here_later ks now later r = then_reaches r.steps r.log (now r) (kept_rest m ks) (later r) (kept_later ks)

  own_later : (ks : List (Kept Frame)) (own : List Frame) (v : Value) (r : Run) → Later r.steps r (and_then (m.rest own Client v r) (kept_rest m ks))
  own_later ks own v r = then_reaches r.steps r.log (m.rest own Client v r) (kept_rest m ks) (only.frames own Client v r) (kept_later ks)

  waiting_later : (ks : List (Kept Frame)) (own : List Frame) (server : Evaluation) → ((r : Run) → Later r.steps r (server r)) → (r : Run) → Later r.steps r (waiting m ks own server r)
  waiting_later ks own server later r = then_reaches r.steps r.log (server r) (λ v s. and_then (m.rest own Client v s) (kept_rest m ks)) (later r) (own_later ks own)

  requested_later : (q : Request Frame) (r : Run) → Later r.steps r (requested m q r)
  requested_later (Calls label args) r = only.labels label args Server r
  requested_later (Resumes frames v) r = only.frames frames Server v r

  -- behind its Enter
  behind_enter : (q : Request Frame) (r : Run) → Later r.steps (logs Enter (crossing_of m q) r) (visited m q r)
  behind_enter q r = then_reaches r.steps (logs Enter (crossing_of m q) r).log (requested m q (logs Enter (crossing_of m q) r)) leaves (requested_later q (logs Enter (crossing_of m q) r)) leaves_later

  visited_later : (q : Request Frame) (r : Run) → Later r.steps r (visited m q r)
  visited_later q r = reaches_on r.steps r.log (logs Enter (crossing_of m q) r) (run_of (visited m q r)) (with_entry Enter (crossing_of m q) r) (behind_enter q r)

  called_later : (returns : Option (List Value)) (callee : Callee) (args : List Value) (body : Evaluation) → ((r : Run) → Later r.steps r (body r)) → (r : Run) → Later r.steps r (client_call returns callee args body r)
  called_later None callee args body later r = then_reaches r.steps r.log (body r) enters (later r) enters_later
  called_later (Some []) callee args body later r = at_once r
  called_later (Some (v ∷ others)) callee args body later r =
      let one = with_step Enter (Returned v) (record r { returns = Some others }) in
      a_step r (client_call (Some (v ∷ others)) callee args body r) (record { more = one.more; logged = one.logged; rise = one.rise })

  replied_later : (e : Reply Frame) (r : Run) → Later r.steps r (replied m e r)
  replied_later (Returns v) r = at_once r
  replied_later (Traps trap) r = at_once r
  replied_later (Asks label args frames) r =
      then_reaches r.steps r.log (client_call r.returns (m.callee label args) (m.passed label args) (m.does label args Client) r) (λ v s. and_then (m.rest frames Server v s) leaves)
      (called_later r.returns (m.callee label args) (m.passed label args) (m.does label args Client) (only.labels label args Client) r)
      (λ v s. then_reaches s.steps s.log (m.rest frames Server v s) leaves (only.frames frames Server v s) leaves_later)

  -- ---- a step first

  answer_steps : (ks : List (Kept Frame)) (k : Kept Frame) (v : Value) → StepsFirst (here m (k ∷ ks) (Goes v))
  answer_steps ks k v r =
      let client : Value → Evaluation = λ x q. and_then (m.rest k.client Client x q) (kept_rest m ks) in
      let left : Value → Evaluation = λ u t. and_then (leaves u t) client in
      let served : Value → Evaluation = λ w s. and_then (m.rest k.server Server w s) left in
      inl (then_reaches (r.steps + 1) r.log (enters v r) served (with_step Enter (Returned v) r)
      (λ w s. then_reaches s.steps s.log (m.rest k.server Server w s) left (only.frames k.server Server w s)
      (λ u t. then_reaches t.steps t.log (leaves u t) client (leaves_later u t) (own_later ks k.client))))

  ask_steps : (label : ℕ) (args : List Value) (frames : List Frame) → StepsFirst (λ r. and_then (and_then (call_from Server Client (m.callee label args) (m.passed label args) (m.does label args) r) (m.rest frames Server)) leaves)
  ask_steps label args frames r =
      let left : Run = logs Leave (Called (m.callee label args) (m.passed label args)) (step r) in
      let called : Out Value = client_call r.returns (m.callee label args) (m.passed label args) (m.does label args Client) left in
      let first : Reaches (r.steps + 1) r.log (run_of called) = reaches_on (r.steps + 1) r.log left (run_of called) (with_step Leave (Called (m.callee label args) (m.passed label args)) r)
      (called_later r.returns (m.callee label args) (m.passed label args) (m.does label args Client) (only.labels label args Client) left) in
      inl (then_reaches (r.steps + 1) r.log (and_then called (m.rest frames Server)) leaves (then_reaches (r.steps + 1) r.log called (m.rest frames Server) first (only.frames frames Server)) leaves_later)

  waiting_enters : (ks : List (Kept Frame)) (own : List Frame) (q : Request Frame) → LogsFirst Enter (crossing_of m q) (waiting m ks own (visited m q))
  waiting_enters ks own q r =
      let whole = then_reaches r.steps (logs Enter (crossing_of m q) r).log (visited m q r) (λ v s. and_then (m.rest own Client v s) (kept_rest m ks)) (behind_enter q r) (own_later ks own) in
      (whole.more, whole.logged)

  pub later_law : LaterLaw m
  later_law = record {
    here_later = here_later;
    waiting_later = waiting_later;
    visited_later = visited_later;
    replied_later = replied_later;
    here_steps = λ ks now steps. first_then now (kept_rest m ks) (kept_later ks) steps;
    answer_steps = answer_steps;
    works_steps = λ now steps. first_then now leaves leaves_later steps;
    return_steps = λ v r. inl (with_step Leave (Returned v) r);
    ask_steps = ask_steps;
    waiting_enters = waiting_enters;
  }
