-- The laws of where sessions stand, of counting and of agreement; their proofs stand in proofs/.
use Rattle.std.specs.Prelude.{◌≡◌, ◌≤◌, ℕ, ◌+◌, List, [], ◌∷◌, ◌++◌, Some, None}
use Rattle.lk_ast.specs.Rows.{rows_value}
use Rattle.lk_ast.specs.declared.event.Event.{Event}
use Rattle.lk_ast.specs.declared.event.Event.TheVariants.{Enter, Leave, Print, Read, Write}
use Rattle.lk_ast.specs.declared.event.Trap.{Trap}
use Rattle.lk_ast.specs.declared.place.Loc.{Loc}
use Rattle.lk_ast.specs.declared.place.Loc.TheVariants.{Client, Server}
use Rattle.lk_ast.specs.declared.table.Row.{Row}
use Rattle.lk_ast.specs.declared.value.Value.{Value}
use Rattle.lk_evaluation.specs.Evaluation.{Printing, Reading, Writing, call_from, used}
use Rattle.lk_evaluation.specs.Laws.{Extends, run_of}
use Rattle.lk_evaluation.specs.Run.{Asked, Called, Crossing, Entry, Goes, Out, Returned, Run, Stops, Trapped, Within, and_then, events_of, logs, start, step}
use Rattle.lk_moves.specs.Courses.{Course, Evaluation, Takes, TakesWhole, after, before, followed, one_step}
use Rattle.lk_moves.specs.Later.{Later}
use Rattle.lk_moves.specs.Meaning.{Meaning}
use Rattle.lk_operators.specs.Values.{unit}
use Rattle.lk_course.specs.Agreement.{HasCome, HasEnded}
use Rattle.lk_course.specs.Counting.{ArePrints, AreUpTo, GoesAlone, GoesPast, StepsFirst, next_enter, prints_between}
use Rattle.lk_course.specs.Events.{HasEvents, happening, stepping}
use Rattle.lk_course.specs.Standing.{Asks, Calls, IsVisit, Kept, Reply, Request, Resumes, Returns, Traps, crossing_of, here, leaves, replied, requested, visited, waiting}

-- frames by their numbers, with the values that they keep, as code has them
abbrev pub Numbered : Type 0
Numbered = ℕ × List Value

-- a law of every meaning of code
abbrev pub OfMeanings : (Meaning Numbered → Type 0) → Type 0
OfMeanings Law = (m : Meaning Numbered) → Law m

-- ---- sessions

-- what a client does next
pub record ClientLaw {Frame : Type 0} (m : Meaning Frame) : Type 0 where
  -- a stretch of its own is one of the session
  pub goes : (ks : List (Kept Frame)) (now next : Evaluation) (c : Course) → Takes now c next → Takes (here m ks now) c (here m ks next)
  -- it calls the server: a step, and then it waits for the visit
  pub calls : (ks : List (Kept Frame)) (own : List Frame) (label : ℕ) (args : List Value)
      → Takes (here m ks (λ r. and_then (call_from Client Server (m.callee label args) (m.passed label args) (m.does label args) r) (m.rest own Client))) one_step (waiting m ks own (visited m (Calls label args)))
  -- it has the value of the server's last call: a step, and then it waits for the visit of the frames that came with that call
  pub answers : (ks : List (Kept Frame)) (k : Kept Frame) (v : Value) → Takes (here m (k ∷ ks) (Goes v)) one_step (waiting m ks k.client (visited m (Resumes k.server v)))
  -- a value where nothing is kept is the session's, and a trap ends it
  pub ends : (v : Value) (r : Run) → here m [] (Goes v) r ≡ Goes v r
  pub traps : (ks : List (Kept Frame)) (trap : Trap) (r : Run) → here m ks (Stops (Trapped trap)) r ≡ Stops (Trapped trap) r
  -- a visit is a stretch of the session
  pub visits : (ks : List (Kept Frame)) (own : List Frame) (q : Request Frame) (c : Course) (e : Reply Frame) → IsVisit m q c e → Takes (waiting m ks own (visited m q)) c (waiting m ks own (replied m e))
  -- a value comes, and the client goes on with its own frames; or a call does, and these are kept
  pub value_comes : (ks : List (Kept Frame)) (own : List Frame) (v : Value) (r : Run) → waiting m ks own (replied m (Returns v)) r ≡ here m ks (m.rest own Client v) r
  pub call_comes : (ks : List (Kept Frame)) (own frames : List Frame) (label : ℕ) (args : List Value) (r : Run) → r.returns ≡ None
      → waiting m ks own (replied m (Asks label args frames)) r ≡ here m (record { server = frames; client = own } ∷ ks) (m.does label args Client) r
  pub trap_comes : (ks : List (Kept Frame)) (own : List Frame) (trap : Trap) (r : Run) → waiting m ks own (replied m (Traps trap)) r ≡ Stops (Trapped trap) r

-- what a visit does next
pub record VisitLaw {Frame : Type 0} (m : Meaning Frame) : Type 0 where
  -- its Enter comes first, without a step
  pub enters : (q : Request Frame) → Takes (visited m q) (happening Enter (crossing_of m q)) (λ r. and_then (requested m q r) leaves)
  -- a stretch of what is asked for is one of the visit
  pub works : (now next : Evaluation) (c : Course) → Takes now c next → Takes (λ r. and_then (now r) leaves) c (λ r. and_then (next r) leaves)
  -- a value leaves with a step, and a trap ends the visit
  pub returns : (v : Value) → Takes (λ r. and_then (Goes v r) leaves) (stepping Leave (Returned v)) (replied m (Returns v))
  pub traps : (trap : Trap) (r : Run) → and_then (Stops (Trapped trap) r) leaves ≡ replied m (Traps trap) r
  -- a call of what the client has leaves with a step, and the frames wait for its value
  pub asks : (label : ℕ) (args : List Value) (frames : List Frame)
      → Takes (λ r. and_then (and_then (call_from Server Client (m.callee label args) (m.passed label args) (m.does label args) r) (m.rest frames Server)) leaves) (stepping Leave (Called (m.callee label args) (m.passed label args)))
      (replied m (Asks label args frames))

-- The frames of a reply go on with the visit that it is of. Over further answers, and with any fuel and returns, the visit ends with the
-- call where no return is left; else, behind its Leave and a step, it is the visit of these frames with the first return for the value,
-- over the others.
pub record GoesOnLaw {Frame : Type 0} (m : Meaning Frame) : Type 0 where
  pub asked : (q : Request Frame) (c : Course) (label : ℕ) (args : List Value) (frames : List Frame) → IsVisit m q c (Asks label args frames)
      → (r : Run) → r.returns ≡ Some [] → visited m q (before c r) ≡ Stops (Asked (m.callee label args) (m.passed label args)) (after c r)
  pub goes_on : (q : Request Frame) (c : Course) (label : ℕ) (args : List Value) (frames : List Frame) → IsVisit m q c (Asks label args frames)
      → (r : Run) (v : Value) (others : List Value) → r.returns ≡ Some (v ∷ others) → visited m q (before c r) ≡ visited m (Resumes frames v) (step (record (after c r) { returns = Some others }))

-- ---- events

-- what only one place can do is its event, and then its value
pub record EventsLaw : Type 0 where
  pub prints : (bytes : List ℕ) (k : Value → Evaluation) → Takes (λ r. and_then (used (Printing bytes) r) k) (happening (Print bytes) Within) (k unit)
  pub reads : (site : ℕ) (args : List Value) (answer : List Row) (k : Value → Evaluation)
      → Takes (λ r. and_then (used (Reading site args) r) k) (happening (Read (record { site = site; args = args; answer = answer })) Within) (k (rows_value answer))
  pub writes : (site : ℕ) (args : List Value) (k : Value → Evaluation) → Takes (λ r. and_then (used (Writing site args) r) k) (happening (Write (record { site = site; args = args })) Within) (k unit)
  -- the events of one stretch and then of another, how far they reach, and whether they are prints
  pub both : (c d : Course) (es fs : List Event) → HasEvents c es → HasEvents d fs → HasEvents (followed c d) (es ++ fs)
  pub both_up_to : (c d : Course) → AreUpTo c.steps c.log → AreUpTo d.steps d.log → AreUpTo (followed c d).steps (followed c d).log
  pub both_print : (c d : Course) → ArePrints c.steps c.log → ArePrints d.steps d.log → ArePrints (followed c d).steps (followed c d).log
  pub prints_up_to : (n : ℕ) (log : List Entry) → ArePrints n log → AreUpTo n log

-- ---- later

-- what labels do, and what frames do, only gets later
pub record OnlyLater {Frame : Type 0} (m : Meaning Frame) : Type 0 where
  pub labels : (label : ℕ) (args : List Value) (place : Loc) (r : Run) → Later r.steps r (m.does label args place r)
  pub frames : (frames : List Frame) (place : Loc) (v : Value) (r : Run) → Later r.steps r (m.rest frames place v r)

-- it logs this before anything else
abbrev pub LogsFirst : Event → Crossing → Evaluation → Type 0
LogsFirst event crossing e = (r : Run) → Extends (logs event crossing r).log (run_of (e r)).log

-- Wherever a session stands, it only gets later; a step of what the client does, or of a visit, comes first in the whole.
pub record LaterLaw {Frame : Type 0} (m : Meaning Frame) : Type 0 where
  pub here_later : (ks : List (Kept Frame)) (now : Evaluation) → ((r : Run) → Later r.steps r (now r)) → (r : Run) → Later r.steps r (here m ks now r)
  pub waiting_later : (ks : List (Kept Frame)) (own : List Frame) (server : Evaluation) → ((r : Run) → Later r.steps r (server r)) → (r : Run) → Later r.steps r (waiting m ks own server r)
  pub visited_later : (q : Request Frame) (r : Run) → Later r.steps r (visited m q r)
  pub replied_later : (e : Reply Frame) (r : Run) → Later r.steps r (replied m e r)
  -- the client's own step, and that of a value for the server
  pub here_steps : (ks : List (Kept Frame)) (now : Evaluation) → StepsFirst now → StepsFirst (here m ks now)
  pub answer_steps : (ks : List (Kept Frame)) (k : Kept Frame) (v : Value) → StepsFirst (here m (k ∷ ks) (Goes v))
  -- the server's own step, that of its value, and that of its call of what the client has
  pub works_steps : (now : Evaluation) → StepsFirst now → StepsFirst (λ r. and_then (now r) leaves)
  pub return_steps : (v : Value) → StepsFirst (λ r. and_then (Goes v r) leaves)
  pub ask_steps : (label : ℕ) (args : List Value) (frames : List Frame) → StepsFirst (λ r. and_then (and_then (call_from Server Client (m.callee label args) (m.passed label args) (m.does label args) r) (m.rest frames Server)) leaves)
  -- a client that waits for a visit has come to its Enter
  pub waiting_enters : (ks : List (Kept Frame)) (own : List Frame) (q : Request Frame) → LogsFirst Enter (crossing_of m q) (waiting m ks own (visited m q))

-- ---- counting

-- the run at the end of a stretch from the start with nothing over
abbrev pub at_end : Course → Run
at_end c = record { fuel = 0; steps = c.steps; log = c.log; answers = []; returns = None }

-- What a session comes to that goes on alone behind a stretch, with the fuel of both and over the answers so far: to what is left, behind all
-- of its prints. Where that takes a step first, it goes past these steps without a stop; where it logs an Enter first, that is the next
-- one, with the number of these steps; and where it is an end, no Enter comes before.
pub record CountingLaw (session : Evaluation) (c d : Course) (next : Evaluation) (out : Out Value) : Type 0 where
  pub comes : out ≡ next (at_end (followed c d))
  pub past : StepsFirst next → GoesPast c.steps (c.steps + d.steps) out
  pub past_prints : StepsFirst next → prints_between c.steps (c.steps + d.steps) (run_of out).log ≡ events_of d.log
  pub entered : (crossing : Crossing) → LogsFirst Enter crossing next → 1 ≤ d.steps → next_enter c.steps (run_of out).log ≡ Some (record { number = c.steps + d.steps; event = Enter; crossing = crossing })
  pub entered_prints : (crossing : Crossing) → LogsFirst Enter crossing next → 1 ≤ d.steps → prints_between c.steps (c.steps + d.steps) (run_of out).log ≡ events_of d.log
  pub ended : ((r : Run) → run_of (next r) ≡ r) → next_enter c.steps (run_of out).log ≡ None
  pub ended_prints : ((r : Run) → run_of (next r) ≡ r) → prints_between c.steps (c.steps + d.steps) (run_of out).log ≡ events_of d.log

abbrev pub CountsLaw : Type 0
CountsLaw = (session : Evaluation) (c d : Course) (next : Evaluation) → GoesAlone session c d next → CountingLaw session c d next (session (start (c.fuel + d.fuel) c.answers))

-- ---- agreement

-- What a session comes to by a stretch with these events agrees with its evaluation: an end with the whole of it, and what only adds to the
-- log with its first part.
pub record AgreementLaw : Type 0 where
  pub ended : (session outcome : Evaluation) (c : Course) (events : List Event) → HasEvents c events → TakesWhole session c outcome → HasEnded session events outcome
  pub come : (session next : Evaluation) (c : Course) (events : List Event) → HasEvents c events → TakesWhole session c next → ((r : Run) → Extends r.log (run_of (next r)).log) → HasCome session events
