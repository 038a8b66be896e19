-- A machine that gives frames a value does what they do with it.
use Rattle.std.proofs.Common.{◌≡◌, sym, ◌∙◌, ap, subst, suc, arith}
use Rattle.std.specs.Prelude.{List, [], ◌∷◌, None, length}
use Rattle.lk_ast.specs.declared.place.Loc.{Loc}
use Rattle.lk_ast.specs.declared.place.Loc.TheVariants.{Client}
use Rattle.lk_ast.specs.declared.value.Value.{Value}
use Rattle.lk_code.specs.Meaning.{rest}
use Rattle.lk_code.specs.TypedLaw.{IsWhole}
use Rattle.lk_code.specs.Values.{IsFun}
use Rattle.lk_code.specs.declared.tables.CodeTables.{CodeTables}
use Rattle.lk_code.specs.declared.tables.Frame.{Frame}
use Rattle.lk_evaluation.specs.Run.{Run}
use Rattle.lk_fits.specs.Values.{Fits}
use Rattle.lk_types.specs.declared.ground.Ground.{Ground}
use Rattle.lk_machine.proofs.GoingOn.{goes_on_so}
use Rattle.lk_machine.proofs.Rounds.{waiting_twice}
use Rattle.lk_machine.specs.Going.{doing, waiting}
use Rattle.lk_machine.specs.Stepped.{GoesOn, IsReturning}
use Rattle.lk_machine.specs.Typed.{AreFrames, IsPlace, MaySteps}
use Rattle.lk_machine.specs.declared.state.Now.TheVariants as now
use Rattle.lk_machine.specs.declared.state.State.{State}

module _ (c : CodeTables) (whole : IsWhole c) (place : Loc) (frames : List Frame) (v : Value) (stack : List Frame) (is : stack ≡ waiting c frames) where
  abbrev machine : State
  machine = record { place = place; stack = stack; now = now.Give v; printed = None }

  again : waiting c stack ≡ frames
  again = ap (waiting c) is ∙ waiting_twice c frames

  pub going : (r : Run) → doing c machine r ≡ rest c frames place v r
  going r = ap (λ fs. rest c fs place v r) again

  pub typed : IsPlace place → (t u : Ground) → AreFrames c place frames t u → Fits (IsFun c) v t → MaySteps c machine u
  typed one t u all fits = (t, record { place = one; next = fits; frames = subst (λ fs. AreFrames c place fs t u) (sym again) all }, tt)

  -- two frames aren't the return alone
  not_back : (f g : Frame) (fs : List Frame) → frames ≡ f ∷ g ∷ fs → IsReturning machine → ⊥
  not_back f g fs two back =
      let one : waiting c stack ≡ waiting c (back.1 ∷ []) = ap (waiting c) back.3 in
      let same : f ∷ g ∷ fs ≡ waiting c (back.1 ∷ []) = sym two ∙ sym again ∙ one in
      let long : suc (suc (length fs)) ≡ 1 = ap length same in
      omega (arith, long)

  pub on : IsPlace place → (t u : Ground) → AreFrames c place frames t u → Fits (IsFun c) v t → place ≡ Client → (f g : Frame) (fs : List Frame) → frames ≡ f ∷ g ∷ fs → GoesOn c machine
  on one t u all fits client f g fs two = goes_on_so c whole machine u (typed one t u all fits) client (not_back f g fs two)
