-- Where a session stands in its evaluation. The client calls the server by requests, and the server keeps nothing between two of them:
-- what it still has to do goes to the client with a call of the client's, and comes back with the value (E. Cooper and P. Wadler, The
-- RPC Calculus, 2009). So a session is what the client does now, and what waits for it.
use Rattle.std.specs.Prelude.{ℕ, List, [], ◌∷◌}
use Rattle.lk_ast.specs.declared.event.Event.TheVariants.{Enter, Leave}
use Rattle.lk_ast.specs.declared.event.Trap.{Trap}
use Rattle.lk_ast.specs.declared.place.Loc.TheVariants.{Client, Server}
use Rattle.lk_ast.specs.declared.value.Value.{Value}
use Rattle.lk_evaluation.specs.Evaluation.{client_call}
use Rattle.lk_evaluation.specs.Run.{Crossing, Called, Returned, Goes, Stops, Trapped, and_then, logs, step}
use Rattle.lk_moves.specs.Courses.{Course, Evaluation, Takes}
use Rattle.lk_moves.specs.Meaning.{Meaning}

-- what the client asks of the server: a call of what has that label, or a value for frames that the server gave it
pub data Request (Frame : Type 0) : Type 0 where
  Calls : (label : ℕ) (args : List Value) → Request Frame
  Resumes : (frames : List Frame) (value : Value) → Request Frame

-- what the server answers: a value, a trap, or a call of what the client has, with the frames that wait for its value
pub data Reply (Frame : Type 0) : Type 0 where
  Returns : (value : Value) → Reply Frame
  Traps : (trap : Trap) → Reply Frame
  Asks : (label : ℕ) (args : List Value) (frames : List Frame) → Reply Frame

-- a value goes back to the client, or to the server: a step, and what is logged of it
abbrev pub leaves : Value → Evaluation
leaves v r = Goes v (logs Leave (Returned v) (step r))

abbrev pub enters : Value → Evaluation
enters v r = Goes v (logs Enter (Returned v) (step r))

-- A call of the server's that the client has taken and not yet answered: the server's frames that came with it, and the client's own that
-- wait for what the server then answers.
pub record Kept (Frame : Type 0) : Type 0 where
  pub server : List Frame
  pub client : List Frame

module _ {Frame : Type 0} (m : Meaning Frame) where
  -- ---- visits

  -- what crosses with a request
  abbrev pub crossing_of : Request Frame → Crossing
  crossing_of (Calls label args) = Called (m.callee label args) (m.passed label args)
  crossing_of (Resumes frames v) = Returned v

  abbrev pub requested : Request Frame → Evaluation
  requested (Calls label args) r = m.does label args Server r
  requested (Resumes frames v) r = m.rest frames Server v r

  -- The server's part of an evaluation for a request, a visit: the Enter, whose step was the client's; what is asked for; and the Leave
  -- of its value, with its step. In a part of an evaluation the values of the client's calls are the returns of its run.
  abbrev pub visited : Request Frame → Evaluation
  visited q r = and_then (requested q (logs Enter (crossing_of q) r)) leaves

  -- what is left of a visit behind its reply; behind a call of the client's, its Leave being logged, all of the call and of the frames
  abbrev pub replied : Reply Frame → Evaluation
  replied (Returns v) r = Goes v r
  replied (Traps trap) r = Stops (Trapped trap) r
  replied (Asks label args frames) r = and_then (client_call r.returns (m.callee label args) (m.passed label args) (m.does label args Client) r) (λ v s. and_then (m.rest frames Server v s) leaves)

  -- the visit for a request is this stretch, and then the reply
  abbrev pub IsVisit : Request Frame → Course → Reply Frame → Type 0
  IsVisit q c e = Takes (visited q) c (replied e)

  -- ---- sessions

  -- What a value at the client goes on with, the last call of the server's first: it goes back to the server, whose frames go on; what comes
  -- of them leaves, and the client's frames go on.
  abbrev pub kept_rest : List (Kept Frame) → Value → Evaluation
  kept_rest [] v r = Goes v r
  kept_rest (k ∷ ks) v r = and_then (enters v r) (λ w s. and_then (m.rest k.server Server w s) (λ u t. and_then (leaves u t) (λ x q. and_then (m.rest k.client Client x q) (kept_rest ks))))

  -- the client is at work: what it does now, and then what it keeps
  abbrev pub here : List (Kept Frame) → Evaluation → Evaluation
  here ks now r = and_then (now r) (kept_rest ks)

  -- the client waits with these frames of its own for what the server does
  abbrev pub waiting : List (Kept Frame) → List Frame → Evaluation → Evaluation
  waiting ks own server r = and_then (server r) (λ v s. and_then (m.rest own Client v s) (kept_rest ks))
