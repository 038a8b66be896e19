-- What a value of a type is, one level deep, in both directions.
use Rattle.std.proofs.Common.{◌≡◌, refl, sym, ap, subst, ◌∙◌, inl, inr, ℕ, ℤ, Bool, List, [], ◌∷◌}
use Rattle.std.specs.Prelude.{◌⊎◌}
use Rattle.lk_ast.specs.declared.table.Base.{Base}
use Rattle.lk_ast.specs.declared.table.Base.TheVariants as base
use Rattle.lk_ast.specs.declared.value.Field.{Field}
use Rattle.lk_ast.specs.declared.value.FunValue.{FunValue}
use Rattle.lk_ast.specs.declared.value.Value.{Value, out-Value, roll-Value, roll-out-Value}
use Rattle.lk_ast.specs.declared.value.Value.TheOpen.{Value-F}
use Rattle.lk_ast.specs.declared.value.Value.TheVariants as value
use Rattle.lk_types.specs.Each.{OneOf}
use Rattle.lk_types.specs.declared.ground.Ground.{Ground, out-Ground, roll-Ground, roll-out-Ground}
use Rattle.lk_types.specs.declared.ground.Ground.TheOpen.{Ground-F}
use Rattle.lk_types.specs.declared.ground.Ground.TheVariants as known
use Rattle.lk_types.specs.declared.ground.GroundField.{GroundField}
use Rattle.lk_types.specs.declared.ty.Effect.{Effect}
use Rattle.lk_fits.specs.Levels.{IsMade, IsOf, IsTag}
use Rattle.lk_fits.specs.Values.{Fits, AllFit, FitEach, FieldsFit}

module _ (IsFun : ℕ → Ground → List Ground → Type 0) where
  -- ---- what a value that fits is

  abbrev Level : Value → Ground → Type 0
  Level v t = IsOf IsFun (out-Value v) (out-Ground t)

  -- a value of this kind is of a type of that kind
  at : (v : Value) (t : Ground) (x : Value-F Value Field FunValue) (y : Ground-F Ground GroundField) → out-Value v ≡ x → out-Ground t ≡ y → IsOf IsFun x y → Level v t
  at v t x y v_is t_is of = subst (λ z. IsOf IsFun z (out-Ground t)) (sym v_is) (subst (IsOf IsFun x) (sym t_is) of)

  -- a tag of a type is one by its label
  one_tag : (held : Value) (g : GroundField) (gs : List GroundField) → OneOf (λ other. other ≡ g) gs → Fits IsFun held g.ty → IsTag IsFun gs g.label held
  one_tag held g [] one fits = absurd one
  one_tag held g (other ∷ gs) (inl same) fits = inl (ap (λ (h : GroundField). h.label) same, subst (λ (h : GroundField). Fits IsFun held h.ty) (sym same) fits)
  one_tag held g (other ∷ gs) (inr one) fits = inr (one_tag held g gs one fits)

  pub shown : (v : Value) (t : Ground) → Fits IsFun v t → Level v t
  shown v t (Fits.int n v_is t_is) = at v t (Value-F.Base (base.Int n)) Ground-F.Int (ap out-Value v_is ∙ value.outs-Base (base.Int n)) (ap out-Ground t_is ∙ known.outs-Int) tt
  shown v t (Fits.bool b v_is t_is) = at v t (Value-F.Base (base.Bool b)) Ground-F.Bool (ap out-Value v_is ∙ value.outs-Base (base.Bool b)) (ap out-Ground t_is ∙ known.outs-Bool) tt
  shown v t (Fits.text bytes v_is t_is) = at v t (Value-F.Base (base.Text bytes)) Ground-F.Text (ap out-Value v_is ∙ value.outs-Base (base.Text bytes)) (ap out-Ground t_is ∙ known.outs-Text) tt
  shown v t (Fits.list values a v_is fit t_is) = at v t (Value-F.List values) (Ground-F.List a) (ap out-Value v_is ∙ value.outs-List values) (ap out-Ground t_is ∙ known.outs-List a) fit
  shown v t (Fits.fields fs gs v_is fit t_is) = at v t (Value-F.Fields fs) (Ground-F.Fields gs) (ap out-Value v_is ∙ value.outs-Fields fs) (ap out-Ground t_is ∙ known.outs-Fields gs) fit
  shown v t (Fits.tag held g gs v_is one fits t_is) =
      at v t (Value-F.Tag g.label held) (Ground-F.Tags gs) (ap out-Value v_is ∙ value.outs-Tag g.label held) (ap out-Ground t_is ∙ known.outs-Tags gs) (one_tag held g gs one fits)
  shown v t (Fits.function f ts kept effects b v_is fun fit t_is) =
      at v t (Value-F.Fun f) (Ground-F.Fun ts effects b) (ap out-Value v_is ∙ value.outs-Fun f) (ap out-Ground t_is ∙ known.outs-Fun ts effects b) (kept, subst (λ u. IsFun f.site u kept) t_is fun, fit)

  -- ---- values that fit

  tag_fits : (v held : Value) (label : List ℕ) (gs all : List GroundField) → v ≡ value.Tag label held → ((g : GroundField) → OneOf (λ other. other ≡ g) gs → OneOf (λ other. other ≡ g) all) → IsTag IsFun gs label held → Fits IsFun v (known.Tags all)
  tag_fits v held label [] all v_is among one = absurd one
  tag_fits v held label (g ∷ gs) all v_is among (inl (same, fits)) = Fits.tag held g all (v_is ∙ ap (λ l. value.Tag l held) (sym same)) (among g (inl refl)) fits refl
  tag_fits v held label (g ∷ gs) all v_is among (inr one) = tag_fits v held label gs all v_is (λ h is. among h (inr is)) one

  by_level : (x : Value-F Value Field FunValue) (y : Ground-F Ground GroundField) → IsOf IsFun x y → Fits IsFun (roll-Value x) (roll-Ground y)
  by_level (Value-F.Base (base.Int n)) Ground-F.Int of = Fits.int n (value.rolls-Base (base.Int n)) known.rolls-Int
  by_level (Value-F.Base (base.Int n)) Ground-F.Bool of = absurd of
  by_level (Value-F.Base (base.Int n)) Ground-F.Text of = absurd of
  by_level (Value-F.Base (base.Int n)) (Ground-F.List a) of = absurd of
  by_level (Value-F.Base (base.Int n)) (Ground-F.Fields gs) of = absurd of
  by_level (Value-F.Base (base.Int n)) (Ground-F.Tags gs) of = absurd of
  by_level (Value-F.Base (base.Int n)) (Ground-F.Fun ts effects a) of = absurd of
  by_level (Value-F.Base (base.Bool b)) Ground-F.Int of = absurd of
  by_level (Value-F.Base (base.Bool b)) Ground-F.Bool of = Fits.bool b (value.rolls-Base (base.Bool b)) known.rolls-Bool
  by_level (Value-F.Base (base.Bool b)) Ground-F.Text of = absurd of
  by_level (Value-F.Base (base.Bool b)) (Ground-F.List a) of = absurd of
  by_level (Value-F.Base (base.Bool b)) (Ground-F.Fields gs) of = absurd of
  by_level (Value-F.Base (base.Bool b)) (Ground-F.Tags gs) of = absurd of
  by_level (Value-F.Base (base.Bool b)) (Ground-F.Fun ts effects a) of = absurd of
  by_level (Value-F.Base (base.Text bytes)) Ground-F.Int of = absurd of
  by_level (Value-F.Base (base.Text bytes)) Ground-F.Bool of = absurd of
  by_level (Value-F.Base (base.Text bytes)) Ground-F.Text of = Fits.text bytes (value.rolls-Base (base.Text bytes)) known.rolls-Text
  by_level (Value-F.Base (base.Text bytes)) (Ground-F.List a) of = absurd of
  by_level (Value-F.Base (base.Text bytes)) (Ground-F.Fields gs) of = absurd of
  by_level (Value-F.Base (base.Text bytes)) (Ground-F.Tags gs) of = absurd of
  by_level (Value-F.Base (base.Text bytes)) (Ground-F.Fun ts effects a) of = absurd of
  by_level (Value-F.List values) Ground-F.Int of = absurd of
  by_level (Value-F.List values) Ground-F.Bool of = absurd of
  by_level (Value-F.List values) Ground-F.Text of = absurd of
  by_level (Value-F.List values) (Ground-F.List a) of = Fits.list values a (value.rolls-List values) of (known.rolls-List a)
  by_level (Value-F.List values) (Ground-F.Fields gs) of = absurd of
  by_level (Value-F.List values) (Ground-F.Tags gs) of = absurd of
  by_level (Value-F.List values) (Ground-F.Fun ts effects a) of = absurd of
  by_level (Value-F.Fields fs) Ground-F.Int of = absurd of
  by_level (Value-F.Fields fs) Ground-F.Bool of = absurd of
  by_level (Value-F.Fields fs) Ground-F.Text of = absurd of
  by_level (Value-F.Fields fs) (Ground-F.List a) of = absurd of
  by_level (Value-F.Fields fs) (Ground-F.Fields gs) of = Fits.fields fs gs (value.rolls-Fields fs) of (known.rolls-Fields gs)
  by_level (Value-F.Fields fs) (Ground-F.Tags gs) of = absurd of
  by_level (Value-F.Fields fs) (Ground-F.Fun ts effects a) of = absurd of
  by_level (Value-F.Tag label held) Ground-F.Int of = absurd of
  by_level (Value-F.Tag label held) Ground-F.Bool of = absurd of
  by_level (Value-F.Tag label held) Ground-F.Text of = absurd of
  by_level (Value-F.Tag label held) (Ground-F.List a) of = absurd of
  by_level (Value-F.Tag label held) (Ground-F.Fields gs) of = absurd of
  by_level (Value-F.Tag label held) (Ground-F.Tags gs) of = subst (Fits IsFun _) (sym (known.rolls-Tags gs)) (tag_fits _ held label gs gs (value.rolls-Tag label held) (λ g is. is) of)
  by_level (Value-F.Tag label held) (Ground-F.Fun ts effects a) of = absurd of
  by_level (Value-F.Fun f) Ground-F.Int of = absurd of
  by_level (Value-F.Fun f) Ground-F.Bool of = absurd of
  by_level (Value-F.Fun f) Ground-F.Text of = absurd of
  by_level (Value-F.Fun f) (Ground-F.List a) of = absurd of
  by_level (Value-F.Fun f) (Ground-F.Fields gs) of = absurd of
  by_level (Value-F.Fun f) (Ground-F.Tags gs) of = absurd of
  by_level (Value-F.Fun f) (Ground-F.Fun ts effects a) of = Fits.function f ts of.0 effects a (value.rolls-Fun f) (subst (λ u. IsFun f.site u of.0) (sym (known.rolls-Fun ts effects a)) of.1) of.2 (known.rolls-Fun ts effects a)

  pub made : (v : Value) (t : Ground) → Level v t → Fits IsFun v t
  made v t of = subst (λ u. Fits IsFun u t) (roll-out-Value v) (subst (Fits IsFun (roll-Value (out-Value v))) (roll-out-Ground t) (by_level (out-Value v) (out-Ground t) of))
