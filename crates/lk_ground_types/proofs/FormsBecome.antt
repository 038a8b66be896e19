-- What each form of type becomes.
use Rattle.std.proofs.Common.{◌≡◌, ℕ, ◌||◌, List, map, ap, sym, ◌∙◌, Option, Some}
use Rattle.std.specs.Option.{option_map}
use Rattle.lk_types.proofs.Unfold.{under_fields, under_function, under_list, under_tags, under_variable}
use Rattle.lk_types.specs.Grounding.{Grounding, all_of, effect_tail, effects_under, row_under, under}
use Rattle.lk_types.specs.Rows.{Row, effects_of, fields_of}
use Rattle.lk_types.specs.declared.ground.Ground.{Ground}
use Rattle.lk_types.specs.declared.ground.Ground.TheVariants as known
use Rattle.lk_types.specs.declared.ground.GroundField.{GroundField}
use Rattle.lk_types.specs.declared.ty.Effect.{Effect}
use Rattle.lk_types.specs.declared.ty.Effects.{Effects}
use Rattle.lk_types.specs.declared.ty.Ty.{Ty}
use Rattle.lk_types.specs.declared.ty.Ty.TheVariants as ty
use Rattle.lk_types.specs.declared.ty.TyRow.{TyRow}
use Rattle.lk_ground_types.proofs.EffectLists.{AreApart, apart_of}
use Rattle.lk_types.proofs.Parts.{function_some, mapped, same_some}
use Rattle.lk_ground_types.specs.Bound.{is_listed}
use Rattle.lk_ground_types.specs.Made.{IsIfThere}

pub is_made : {A : Type 0} (o : Option A) (a : A) → o ≡ Some a → IsIfThere o a
is_made o a is b e = same_some (sym is ∙ e)

module _ (σ : Grounding) (body : Ty) where
  pub base_becomes : (base : Ty) (g : Ground) → under σ base ≡ Some g → body ≡ base → IsIfThere (under σ body) g
  base_becomes base g becomes is = is_made (under σ body) g (ap (under σ) is ∙ becomes)

  pub list_becomes : (t : Ty) (g : Ground) → body ≡ ty.List t → IsIfThere (under σ t) g → IsIfThere (under σ body) (known.List g)
  list_becomes t g is made a e =
      let x = mapped known.List (under σ t) a (sym (ap (under σ) is ∙ under_list σ t) ∙ e) in
      ap known.List (made x.0 x.1) ∙ sym x.2

  pub record_becomes : (r : TyRow) (fs : List GroundField) → body ≡ ty.Fields r → IsIfThere (option_map fields_of (row_under σ r)) fs → IsIfThere (under σ body) (known.Fields fs)
  record_becomes r fs is made a e =
      let x = mapped (λ (m : Row). known.Fields (fields_of m)) (row_under σ r) a (sym (ap (under σ) is ∙ under_fields σ r) ∙ e) in
      ap known.Fields (made (fields_of x.0) (ap (option_map fields_of) x.1)) ∙ sym x.2

  pub variant_becomes : (r : TyRow) (fs : List GroundField) → body ≡ ty.Tags r → IsIfThere (option_map fields_of (row_under σ r)) fs → IsIfThere (under σ body) (known.Tags fs)
  variant_becomes r fs is made a e =
      let x = mapped (λ (m : Row). known.Tags (fields_of m)) (row_under σ r) a (sym (ap (under σ) is ∙ under_tags σ r) ∙ e) in
      ap known.Tags (made (fields_of x.0) (ap (option_map fields_of) x.1)) ∙ sym x.2

  pub function_becomes : (ps : List Ty) (es : Effects) (t : Ty) (qs : List Ground) (labels : List Effect) (g : Ground) → body ≡ ty.Fun ps es t
      → IsIfThere (all_of (map (under σ) ps)) qs → IsIfThere (option_map effects_of (effects_under σ es)) labels → IsIfThere (under σ t) g → IsIfThere (under σ body) (known.Fun qs labels g)
  function_becomes ps es t qs labels g is first second third a e =
      let x = function_some (all_of (map (under σ) ps)) (effects_under σ es) (under σ t) a (sym (ap (under σ) is ∙ under_function σ ps es t) ∙ e) in
      (λ i. known.Fun (first x.0 x.3 i) (second (effects_of x.1) (ap (option_map effects_of) x.4) i) (third x.2 x.5 i)) ∙ sym x.6

  pub variable_becomes : (n : ℕ) (g : Ground) → body ≡ ty.Var n → g ≡ σ.plain n → IsIfThere (under σ body) g
  variable_becomes n g is made = is_made (under σ body) g (ap (under σ) is ∙ under_variable σ n ∙ ap Some (sym made))

-- ---- effects

pub effects_made : (σ : Grounding) (es : Effects) (labels more made : List Effect) → labels ≡ es.labels → effect_tail σ es.tail ≡ is_listed more
    → made ≡ effects_of (λ e. is_listed labels e || is_listed more e) → IsIfThere (option_map effects_of (effects_under σ es)) made
effects_made σ es labels more made labels_are tail made_is a e =
    let x = mapped effects_of (effects_under σ es) a e in
    let parts : AreApart es.labels (effect_tail σ es.tail) x.0 = apart_of es.labels (effect_tail σ es.tail) x.0 x.1 in
    made_is
    ∙ ap effects_of (λ i e. is_listed (labels_are i) e || sym tail i e)
    ∙ ap effects_of (λ i e. sym (parts.is e) i)
    ∙ sym x.2
