-- What a visit does next, and that frames go on with it.
use Rattle.std.proofs.Common.{ℕ, List, refl, ap, ◌∙◌}
use Rattle.std.specs.Prelude.{Option}
use Rattle.lk_ast.specs.declared.event.Event.TheVariants.{Enter, Leave}
use Rattle.lk_ast.specs.declared.place.Loc.TheVariants.{Client, Server}
use Rattle.lk_ast.specs.declared.value.Value.{Value}
use Rattle.lk_evaluation.specs.Evaluation.{call_from, client_call}
use Rattle.lk_evaluation.specs.Run.{Called, Goes, Returned, and_then}
use Rattle.lk_moves.specs.Courses.{Evaluation, Takes, after, before}
use Rattle.lk_moves.specs.Meaning.{Meaning}
use Rattle.lk_course.proofs.Happening.{happens, steps_to}
use Rattle.lk_course.proofs.Sessions.{then_then}
use Rattle.lk_course.specs.Events.{stepping}
use Rattle.lk_course.specs.Laws.{GoesOnLaw, VisitLaw}
use Rattle.lk_course.specs.Standing.{Asks, crossing_of, leaves, replied, requested}

module _ {Frame : Type 0} (m : Meaning Frame) where
  -- a call, and then its frames, over these returns
  abbrev asking : (label : ℕ) (args : List Value) (frames : List Frame) → Option (List Value) → Evaluation
  asking label args frames returns r = and_then (client_call returns (m.callee label args) (m.passed label args) (m.does label args Client) r) (λ v s. and_then (m.rest frames Server v s) leaves)

  asks : (label : ℕ) (args : List Value) (frames : List Frame)
      → Takes (λ r. and_then (and_then (call_from Server Client (m.callee label args) (m.passed label args) (m.does label args) r) (m.rest frames Server)) leaves) (stepping Leave (Called (m.callee label args) (m.passed label args)))
      (replied m (Asks label args frames))
  asks label args frames r =
      then_then (call_from Server Client (m.callee label args) (m.passed label args) (m.does label args) (before (stepping Leave (Called (m.callee label args) (m.passed label args))) r)) (m.rest frames Server) leaves
      ∙ steps_to Leave (Called (m.callee label args) (m.passed label args)) (λ s. asking label args frames s.returns s) refl r

  pub visit_law : VisitLaw m
  visit_law = record {
    enters = λ q. happens Enter (crossing_of m q) (λ r. and_then (requested m q r) leaves) refl;
    works = λ now next c takes r. ap (λ out. and_then out leaves) (takes r);
    returns = λ v. steps_to Leave (Returned v) (Goes v) refl;
    traps = λ trap r. refl;
    asks = asks;
  }

  pub goes_on_law : GoesOnLaw m
  goes_on_law = record {
    asked = λ q c label args frames is r none. is r ∙ ap (λ returns. asking label args frames returns (after c r)) none;
    goes_on = λ q c label args frames is r v others some. is r ∙ ap (λ returns. asking label args frames returns (after c r)) some;
  }
