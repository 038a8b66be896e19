-- Waiting parts of an evaluation: what each still does with the value that it waits for. A list of them is a continuation
-- (M. Felleisen and D. P. Friedman, Control Operators, the SECD-Machine, and the Lambda-Calculus, 1986), the next one last.
use Rattle.std.specs.Prelude.{List, [], ◌∷◌, ◌++◌, Option, Some, None, length, drop, slice_get}
use Rattle.lk_ast.specs.declared.event.Event.TheVariants.{Enter, Leave}
use Rattle.lk_ast.specs.declared.place.Loc.{Loc}
use Rattle.lk_ast.specs.declared.place.Loc.TheVariants.{Client, Server, Any}
use Rattle.lk_ast.specs.declared.place.Span.{Span}
use Rattle.lk_ast.specs.declared.value.Value.{Value}
use Rattle.lk_evaluation.specs.Evaluation.{Language, eval, handed, all_parts, perform, joined, each}
use Rattle.lk_evaluation.specs.Run.{Run, Out, Goes, and_then, step, logs, Returned}
use Rattle.lk_operators.specs.Values.{list_in}

pub data Frame (P : Type 0) : Type 0 where
  -- a point whose first parts have these values, at the next of them
  Part : (point : P) (done : List Value) (place : Loc) → Frame P
  -- one of several bodies, with those that are left and the list made so far
  Turn : (at : Span) (body : P) (left : List P) (place : Loc) (made : List Value) → Frame P
  -- a call that goes back to that place
  Back : (place : Loc) → Frame P

-- the return of a call to that place
abbrev pub returned : Loc → Value → Run → Out Value
returned Client v r = Goes v (logs Leave (Returned v) (step r))
returned Server v r = Goes v (logs Enter (Returned v) (step r))
returned Any v r = Goes v r

module _ (l : Language) where
  -- these parts that are left, and the act
  abbrev pub rest : List l.Point → l.Point → Loc → List Value → Run → Out Value
  rest left point place done r = and_then (all_parts l (eval l) left place done r) (λ values s. perform l (eval l) place (l.act point values) s)

  -- a point whose first parts have these values
  abbrev pub resumed : l.Point → List Value → Loc → Run → Out Value
  resumed point done place r = rest (drop (length done) (l.parts point)) point place done r

  -- a value is handed on by the part that had it, if there is one
  abbrev pub handed_by : Option l.Point → Run → Run
  handed_by None r = r
  handed_by (Some point) r = handed (l.plain point) r

  -- what a frame does with the value that it waits for
  abbrev pub continued : Frame l.Point → Value → Run → Out Value
  continued (Part point done place) v r = resumed point (done ++ v ∷ []) place (handed_by (slice_get (l.parts point) (length done)) r)
  continued (Turn at body left place made) v r = joined at made (list_in v) (each l (eval l) at left place) (handed (l.plain body) r)
  continued (Back place) v r = returned place v r

  -- an outcome, and then what the frames of a stack do, the last first
  abbrev pub wound : List (Frame l.Point) → Out Value → Out Value
  wound [] out = out
  wound (frame ∷ frames) out = and_then (wound frames out) (continued frame)
