-- The laws of stretches; their proofs stand in proofs/.
use Rattle.std.specs.Prelude.{◌≡◌, ℕ, suc, ◌+◌, List, [], ◌∷◌, ◌++◌, Some, None, length, slice_get}
use Rattle.lk_ast.specs.declared.event.Event.TheVariants.{Enter, Leave}
use Rattle.lk_ast.specs.declared.place.Loc.{Loc}
use Rattle.lk_ast.specs.declared.place.Loc.TheVariants.{Client, Server}
use Rattle.lk_ast.specs.declared.place.Span.{Span}
use Rattle.lk_ast.specs.declared.value.FunValue.{FunValue}
use Rattle.lk_ast.specs.declared.value.Value.{Value}
use Rattle.lk_evaluation.specs.Evaluation.{Language, Goto, each, perform, eval}
use Rattle.lk_evaluation.specs.Laws.{MatchingOuts}
use Rattle.lk_evaluation.specs.Run.{Run, Out, Stops, Stop, and_then, Function, Called, logs, step}
use Rattle.lk_moves.specs.Courses.{Course, Evaluation, Takes, TakesWhole, entering, followed, one_step}
use Rattle.lk_moves.specs.Frames.{Frame, Part, Turn, Back, continued, resumed, wound}
use Rattle.lk_moves.specs.Later.{Later}

abbrev pub Equal : Value → Value → Type 0
Equal v w = v ≡ w

-- outcomes that match by equality are equal
abbrev pub EqualLaw : Type 0
EqualLaw = (out other : Out Value) → MatchingOuts Equal Value Value Equal out other → out ≡ other

-- one stretch and then another
abbrev pub FollowedLaw : Type 0
FollowedLaw = (e f g : Evaluation) (c d : Course) → Takes e c f → Takes f d g → Takes e (followed c d) g

abbrev pub WholeFollowedLaw : Type 0
WholeFollowedLaw = (e f g : Evaluation) (c d : Course) → TakesWhole e c f → TakesWhole f d g → TakesWhole e (followed c d) g

-- what waiting frames keep
pub record FramesLaw (l : Language) : Type 0 where
  -- a stretch is one under them
  pub under : (frames : List (Frame l.Point)) (e f : Evaluation) (c : Course) → Takes e c f → Takes (λ r. wound l frames (e r)) c (λ r. wound l frames (f r))
  -- those of one stack on those of another
  pub stacked : (outer inner : List (Frame l.Point)) (out : Out Value) → wound l (outer ++ inner) out ≡ wound l outer (wound l inner out)
  -- the end of an evaluation passes them all
  pub stopped : (frames : List (Frame l.Point)) (stop : Stop) (r : Run) → wound l frames (Stops stop r) ≡ Stops stop r

-- what an evaluation does next
pub record MovesLaw (l : Language) : Type 0 where
  -- it enters a point
  pub enters : (point : l.Point) (place : Loc) → Takes (eval l point place) entering (resumed l point [] place)
  -- all parts have their values, and the point acts
  pub acts : (point : l.Point) (done : List Value) (place : Loc) (r : Run) → slice_get (l.parts point) (length done) ≡ None → resumed l point done place r ≡ perform l (eval l) place (l.act point done) r
  -- the next part is evaluated, and the point waits
  pub waits : (point part : l.Point) (done : List Value) (place : Loc) (r : Run) → slice_get (l.parts point) (length done) ≡ Some part
      → resumed l point done place r ≡ and_then (eval l part place r) (continued l (Part point done place))
  -- the next of several bodies is evaluated, and those behind it wait
  pub turns : (at : Span) (body : l.Point) (bodies : List l.Point) (place : Loc) (made : List Value) (r : Run)
      → each l (eval l) at (body ∷ bodies) place made r ≡ and_then (eval l body place r) (continued l (Turn at body bodies place made))
  -- a call of a function of the other place is its body there, behind what is logged of the call, and a frame goes back
  pub to_server : (function : FunValue) (args : List Value) (body : l.Point) (r : Run)
      → perform l (eval l) Client (Goto Server function args body) r ≡ and_then (eval l body Server (logs Enter (Called (Function function) args) (step r))) (continued l (Back Client))
  pub to_client : (function : FunValue) (args : List Value) (body : l.Point) (r : Run) → r.returns ≡ None
      → perform l (eval l) Server (Goto Client function args body) r ≡ and_then (eval l body Client (logs Leave (Called (Function function) args) (step r))) (continued l (Back Server))
  -- what begins a step later is behind a stretch of one step
  pub steps : (e : Evaluation) → Takes (λ r. e (step r)) one_step e

-- an evaluation gets later
pub record LaterLaw (l : Language) : Type 0 where
  pub evaluated : (point : l.Point) (place : Loc) (r : Run) → Later r.steps r (eval l point place r)
  -- by a step at least, where there is fuel to begin with
  pub entered : (point : l.Point) (place : Loc) (r : Run) (left : ℕ) → r.fuel ≡ suc left → Later (r.steps + 1) r (eval l point place r)
  -- what frames do with the value at the end of an evaluation only gets later
  pub wound_later : (frames : List (Frame l.Point)) (first : ℕ) (r : Run) (out : Out Value) → Later first r out → Later first r (wound l frames out)
