-- A machine that has a value: it goes on with it, or it ends at the client.
use Rattle.std.proofs.Common.{◌≡◌, refl, sym, ap, subst, ◌∙◌, ℕ, List, [], ◌∷◌, Option, Some, None, arith, length}
use Rattle.lk_ast.specs.declared.event.Event.TheVariants.{Print}
use Rattle.lk_ast.specs.declared.place.Loc.{Loc}
use Rattle.lk_ast.specs.declared.place.Loc.TheVariants.{Client, Server, Any}
use Rattle.lk_ast.specs.declared.value.Value.{Value}
use Rattle.lk_code.specs.Meaning.{rest}
use Rattle.lk_code.specs.Sound.{AreSound}
use Rattle.lk_code.specs.Values.{IsFun}
use Rattle.lk_code.specs.declared.tables.CodeTables.{CodeTables}
use Rattle.lk_code.specs.declared.tables.Frame.{Frame}
use Rattle.lk_evaluation.specs.Evaluation as spec
use Rattle.lk_evaluation.specs.Evaluation.{call_from, used}
use Rattle.lk_evaluation.specs.Run.{Goes, Printer, Run, Within, and_then, logs}
use Rattle.lk_fits.proofs.Shapes.{unit_fits}
use Rattle.lk_fits.specs.Values.{Fits}
use Rattle.lk_moves.proofs.Courses.{takes_as, takes_then}
use Rattle.lk_moves.specs.Courses.{Evaluation, Takes}
use Rattle.lk_operators.specs.Values.{text, unit}
use Rattle.lk_types.specs.declared.ground.Ground.{Ground}
use Rattle.lk_machine.proofs.Taking.{alone, comes_to, printed, takes_printing}
use Rattle.lk_machine.specs.Going.{waiting}
use Rattle.lk_machine.specs.Moves.{ActsAt, GoesWith, Leads, Moves, performed, still, then_frames}
use Rattle.lk_machine.specs.Typed.{AreFrames, Leaves}
use Rattle.lk_machine.specs.declared.state.Next.{Next}
use Rattle.lk_machine.specs.declared.state.Next.TheVariants as next
use Rattle.lk_machine.specs.declared.state.Now.TheVariants as now
use Rattle.lk_machine.specs.declared.state.State.{State}

pub one_frame : (fs : List Frame) → length fs ≡ 1 → (f : Frame) × (fs ≡ f ∷ [])
one_frame [] one = let wrong : 0 ≡ 1 = one in absurd (omega (arith, wrong))
one_frame (f ∷ []) one = (f, refl)
one_frame (f ∷ g ∷ fs) one = absurd (omega (arith, one))

module _ (c : CodeTables) where
  -- ---- the value alone

  -- at the client, where only the return of a label waits, the value is the end
  pub ends_with : (old : State) (v : Value) (f : Frame) (t u : Ground) → old.place ≡ Client → old.printed ≡ None → old.stack ≡ f ∷ [] → AreFrames c old.place (waiting c old.stack) t u → Leads c old (Goes v) old (next.Ended v)
  ends_with old v f t u client quiet is frames =
      (client, subst (λ p. Takes (then_frames c old (Goes v)) (still p) (Goes v)) (sym quiet) (takes_as (then_frames c old (Goes v)) (Goes v) (alone c old f t u is frames v)))

  -- and fits the result
  pub ends_well : AreSound c → (old : State) (v : Value) (f : Frame) → old.stack ≡ f ∷ [] → Moves c (Fits (IsFun c) v) old old (next.Ended v)
  ends_well sound old v f is t u fit frames = (subst (Fits (IsFun c) v) (comes_to c sound old f t u is frames) fit, refl)

  -- ---- behind a text that is printed

  -- what is printed doesn't count for what a machine is left with
  pub leaves_printed : (m : State) (p : Option (List ℕ)) (u : Ground) (answer : Next) → Leaves c m u answer → Leaves c (record m { printed = p }) u answer
  leaves_printed m p u next.More leaves = ((leaves.0.0, record { place = leaves.0.1.place; next = leaves.0.1.next; frames = leaves.0.1.frames }, leaves.0.2), leaves.1)
  leaves_printed m p u (next.Ended v) leaves = leaves
  leaves_printed m p u (next.Trapped trap) leaves = leaves
  leaves_printed m p u (next.CallOut label args) leaves = leaves
  leaves_printed m p u (next.Db label args) leaves = (leaves.0, leaves.1, leaves.2, leaves.3, record { place = leaves.4.place; next = leaves.4.next; frames = leaves.4.frames })

  -- away from the server a text is printed where it is
  printed_here : (place : Loc) → (place ≡ Server → ⊥) → (bytes : List ℕ) (r : Run) → call_from place Client Printer (text bytes ∷ []) (λ _. used (spec.Printing bytes)) r ≡ used (spec.Printing bytes) r
  printed_here Client other bytes r = refl
  printed_here Server other bytes r = absurd (other refl)
  printed_here Any other bytes r = refl

  module _ (old : State) (other : old.place ≡ Server → ⊥) (bytes : List ℕ) where
    abbrev does : Evaluation
    does = performed c old.place (spec.Uses Client (spec.Printing bytes))

    same : (r : Run) → then_frames c old does r ≡ then_frames c old (Goes unit) (logs (Print bytes) Within r)
    same r = ap (λ out. and_then out (rest c (waiting c old.stack) old.place)) (printed_here old.place other bytes r)

    -- the machine goes on with the unit value, or ends with it
    with_unit : old.printed ≡ None → (mid : State) (answer : Next) → GoesWith old unit mid answer → Leads c old (Goes unit) mid answer → Leads c old does (record mid { printed = Some bytes }) answer
    with_unit quiet mid next.More is leads =
        subst (λ (m : State). Leads c old does (record m { printed = Some bytes }) next.More) (sym is) (printed c old (record old { now = now.Give unit; printed = Some bytes }) does bytes refl same)
    with_unit quiet mid (next.Ended w) is leads =
        let silent : mid.printed ≡ None = ap (λ (m : State). m.printed) is.0 ∙ quiet in (
          leads.0,
          takes_then (then_frames c old does) (then_frames c old (Goes unit)) (Goes w) (still (Some bytes)) (still None)
              (takes_printing (then_frames c old does) (then_frames c old (Goes unit)) bytes same)
              (subst (λ p. Takes (then_frames c old (Goes unit)) (still p) (Goes w)) silent leads.1),
        )
    with_unit quiet mid (next.Trapped trap) is leads = absurd is
    with_unit quiet mid (next.CallOut label args) is leads = absurd is
    with_unit quiet mid (next.Db label args) is leads = absurd is

    pub prints_value : old.printed ≡ None → (v : Value) → v ≡ unit → (mid : State) (answer : Next) → GoesWith old v mid answer → Leads c old (Goes v) mid answer → Leads c old does (record mid { printed = Some bytes }) answer
    prints_value quiet v is mid answer only leads = with_unit quiet mid answer (subst (λ x. GoesWith old x mid answer) is only) (subst (λ x. Leads c old (Goes x) mid answer) is leads)

  -- the value of what was printed is of its type
  pub value_fits : (place : Loc) (bytes : List ℕ) (v : Value) (t : Ground) → v ≡ unit → ActsAt c place (spec.Uses Client (spec.Printing bytes)) t → Fits (IsFun c) v t
  value_fits place bytes v t is acts = subst (λ x. Fits (IsFun c) x t) (sym is) (subst (Fits (IsFun c) unit) (sym acts.0) (unit_fits (IsFun c)))

  pub prints_well : (old mid : State) (bytes : List ℕ) (v : Value) → v ≡ unit → (answer : Next) → Moves c (Fits (IsFun c) v) old mid answer → Moves c (ActsAt c old.place (spec.Uses Client (spec.Printing bytes))) old (record mid { printed = Some bytes }) answer
  prints_well old mid bytes v is answer moves t u acts frames =
      let left = moves t u (value_fits old.place bytes v t is acts) frames in
      (leaves_printed mid (Some bytes) u answer left.0, left.1)
