-- Frames that go on with one another come to the result of a label.
use Rattle.std.proofs.Common.{◌≡◌, refl, sym, ap, subst, ◌∙◌, ℕ, zero, suc, ◌<◌, ◌≤◌, List, [], ◌∷◌, Some, length, slice_get, arith}
use Rattle.lk_ast.specs.declared.place.Loc.{Loc}
use Rattle.lk_fits.specs.Values.{FitEach}
use Rattle.lk_types.proofs.Parts.{same_some}
use Rattle.lk_types.specs.declared.ground.Ground.{Ground}
use Rattle.lk_code.proofs.Waiting.{frame_goes}
use Rattle.lk_code.specs.Chains.{AreChained}
use Rattle.lk_code.specs.Law.{frame}
use Rattle.lk_code.specs.Meaning.{frame_meant}
use Rattle.lk_code.specs.Sound.{told_by}
use Rattle.lk_code.specs.Tables.{first_frame, frame_info}
use Rattle.lk_code.specs.TypedLaw.{AreHeld, ComeTo, IsWhole}
use Rattle.lk_code.specs.Values.{IsFun}
use Rattle.lk_code.specs.Waiting.{GoesOn}
use Rattle.lk_code.specs.declared.infos.FrameInfo.{FrameInfo}
use Rattle.lk_code.specs.declared.infos.FunInfo.{FunInfo}
use Rattle.lk_code.specs.declared.tables.CodeTables.{CodeTables}
use Rattle.lk_code.specs.declared.tables.Frame.{Frame}

there : (is : List FunInfo) (n : ℕ) → n < length is → (i : FunInfo) × (slice_get is n ≡ Some i)
there [] n below = absurd (let e : ⊥ = omega arith in e)
there (i ∷ is) zero below = (i, refl)
there (i ∷ is) (suc n) below = there is n (let e : n < length is = omega arith in e)

module _ (c : CodeTables) (whole : IsWhole c) (place : Loc) where
  -- a return hands on the result of its label
  returned : (f : Frame) (t : Ground) → AreChained c (f ∷ []) t → (u : Ground) × ComeTo c place (f ∷ []) t u
  returned f t chained =
      let label = there c.funs f.number chained.3 in
      let found = whole.sound.returns f.number label.0 label.1 in
      (label.0.result, (label.0, label.1, sym chained.2 ∙ ap (λ (i : FrameInfo). i.hole) (same_some (sym chained.1 ∙ found.1)) ∙ found.2.hole, refl))

  goes : (f : Frame) (i : FrameInfo) → frame_info c f.number ≡ Some i → first_frame c ≤ f.number → FitEach (IsFun c) f.env i.env → GoesOn (IsFun c) c.forms (told_by c) c.conts i.hole i.result (frame_meant c place f)
  goes f i is above fit =
      let home = whole.sound.homes f.number i is above in
      subst (λ n. GoesOn (IsFun c) c.forms (told_by c) c.conts i.hole i.result (frame_meant c place (frame n f.env))) (sym home.numbered)
      (frame_goes c whole home.home home.form home.cont i home.there home.is (subst (λ n. frame_info c n ≡ Some i) home.numbered is) f.env place fit)

  pub chains_law : (frames : List Frame) (t : Ground) → AreChained c frames t → AreHeld c frames → (u : Ground) × ComeTo c place frames t u
  chains_law [] t chained held = absurd chained
  chains_law (f ∷ []) t chained held = returned f t chained
  chains_law (f ∷ g ∷ fs) t chained held =
      let rest = chains_law (g ∷ fs) chained.0.result chained.4 held.1 in
      let one = goes f chained.0 chained.1 chained.3 (held.0 chained.0 chained.1) in
      (rest.0, (chained.0.result, subst (λ s. GoesOn (IsFun c) c.forms (told_by c) c.conts s chained.0.result (frame_meant c place f)) chained.2 one, rest.1))
