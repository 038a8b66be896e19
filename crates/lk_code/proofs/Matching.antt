-- Whether a value is of a type is found by the kinds of both.
use Rattle.std.proofs.Common.{◌≡◌, ◌↔◌, sym, ap, subst, ◌∙◌, ℕ, IsTrue, true, List, Some}
use Rattle.std.specs.Prelude.{Bool}
use Rattle.lk_ast.specs.declared.table.Base.{Base}
use Rattle.lk_ast.specs.declared.value.Field.{Field}
use Rattle.lk_ast.specs.declared.value.FunValue.{FunValue}
use Rattle.lk_ast.specs.declared.value.Value.{Value, out-Value}
use Rattle.lk_ast.specs.declared.value.Value.TheOpen.{Value-F}
use Rattle.lk_ast.specs.declared.value.Value.TheVariants as value
use Rattle.lk_fits.proofs.Levels.{made, shown}
use Rattle.lk_fits.specs.Levels.{IsBase, IsMade, IsOf, IsTag}
use Rattle.lk_fits.specs.Values.{Fits, AllFit, FieldsFit, FitEach}
use Rattle.lk_types.proofs.Parts.{same_some}
use Rattle.lk_types.specs.declared.ground.Ground.{Ground, out-Ground}
use Rattle.lk_types.specs.declared.ground.Ground.TheOpen.{Ground-F}
use Rattle.lk_types.specs.declared.ground.Ground.TheVariants as known
use Rattle.lk_types.specs.declared.ground.GroundField.{GroundField}
use Rattle.lk_types.specs.declared.ty.Effect.{Effect}
use Rattle.lk_code.specs.Parts.{function_type}
use Rattle.lk_code.specs.Sound.{info_of}
use Rattle.lk_code.specs.Tables.{fun_info, is_function}
use Rattle.lk_code.specs.Values.{IsFun}
use Rattle.lk_code.specs.declared.infos.FunInfo.{FunInfo}
use Rattle.lk_code.specs.declared.tables.CodeTables.{CodeTables}

module _ (Is : ℕ → Ground → List Ground → Type 0) (v : Value) (t : Ground) (b : Bool) where
  -- what is found of the kinds of both
  by_level : (x : Value-F Value Field FunValue) (y : Ground-F Ground GroundField) → out-Value v ≡ x → out-Ground t ≡ y → (IsTrue b ↔ IsOf Is x y) → IsTrue b ↔ Fits Is v t
  by_level x y v_is t_is tests = (
    λ yes. made Is v t (subst (λ z. IsOf Is z (out-Ground t)) (sym v_is) (subst (IsOf Is x) (sym t_is) (tests.0 yes))),
    λ fits. tests.1 (subst (IsOf Is x) t_is (subst (λ z. IsOf Is z (out-Ground t)) v_is (shown Is v t fits))),
  )

  pub by_base : (base : Base) → v ≡ value.Base base → (IsTrue b ↔ IsBase base (out-Ground t)) → IsTrue b ↔ Fits Is v t
  by_base base v_is tests = by_level (Value-F.Base base) (out-Ground t) (ap out-Value v_is ∙ value.outs-Base base) (λ i. out-Ground t) tests

  pub by_list : (values others : List Value) (a other : Ground) → v ≡ value.List values → t ≡ known.List a → others ≡ values → other ≡ a → (IsTrue b ↔ AllFit Is others other) → IsTrue b ↔ Fits Is v t
  by_list values others a other v_is t_is same same_type tests =
      by_level (Value-F.List values) (Ground-F.List a) (ap out-Value v_is ∙ value.outs-List values) (ap out-Ground t_is ∙ known.outs-List a) (subst (λ vs. IsTrue b ↔ AllFit Is vs a) same (subst (λ u. IsTrue b ↔ AllFit Is others u) same_type tests))

  pub by_fields : (fs others : List Field) (gs types : List GroundField) → v ≡ value.Fields fs → t ≡ known.Fields gs → others ≡ fs → types ≡ gs → (IsTrue b ↔ FieldsFit Is others types) → IsTrue b ↔ Fits Is v t
  by_fields fs others gs types v_is t_is same same_types tests =
      by_level (Value-F.Fields fs) (Ground-F.Fields gs) (ap out-Value v_is ∙ value.outs-Fields fs) (ap out-Ground t_is ∙ known.outs-Fields gs) (subst (λ hs. IsTrue b ↔ FieldsFit Is hs gs) same (subst (λ us. IsTrue b ↔ FieldsFit Is others us) same_types tests))

  pub by_tag : (tag : List ℕ) (held other : Value) (gs types : List GroundField) → v ≡ value.Tag tag held → t ≡ known.Tags gs → other ≡ held → types ≡ gs → (IsTrue b ↔ IsTag Is types tag other) → IsTrue b ↔ Fits Is v t
  by_tag tag held other gs types v_is t_is same same_types tests =
      by_level (Value-F.Tag tag held) (Ground-F.Tags gs) (ap out-Value v_is ∙ value.outs-Tag tag held) (ap out-Ground t_is ∙ known.outs-Tags gs) (subst (λ w. IsTrue b ↔ IsTag Is gs tag w) same (subst (λ us. IsTrue b ↔ IsTag Is us tag other) same_types tests))

  pub by_function : (f : FunValue) (params : List Ground) (effects : List Effect) (a : Ground) → v ≡ value.Fun f → t ≡ known.Fun params effects a → (IsTrue b ↔ IsMade Is t f) → IsTrue b ↔ Fits Is v t
  by_function f params effects a v_is t_is tests =
      by_level (Value-F.Fun f) (Ground-F.Fun params effects a) (ap out-Value v_is ∙ value.outs-Fun f) (ap out-Ground t_is ∙ known.outs-Fun params effects a) (subst (λ u. IsTrue b ↔ IsMade Is u f) t_is tests)

-- a function value keeps values of the types that are told of its label
pub kept_by : (c : CodeTables) (t : Ground) (f : FunValue) (i : FunInfo) → fun_info c f.site ≡ Some i → IsMade (IsFun c) t f → FitEach (IsFun c) f.env i.env
kept_by c t f i told is = subst (FitEach (IsFun c) f.env) (is.1.4 ∙ ap (λ (it : FunInfo). it.env) (same_some (sym is.1.1 ∙ told))) is.2

pub by_kept : (c : CodeTables) (t : Ground) (f : FunValue) (i : FunInfo) (b : Bool) (values : List Value) (types : List Ground) → fun_info c f.site ≡ Some i → (is_function i.kind ≡ true) × (t ≡ function_type (info_of i)) → values ≡ f.env → types ≡ i.env
    → (IsTrue b ↔ FitEach (IsFun c) values types) → IsTrue b ↔ IsMade (IsFun c) t f
by_kept c t f i b values types told is same same_types tests =
    let both : IsTrue b ↔ FitEach (IsFun c) f.env i.env = subst (λ vs. IsTrue b ↔ FitEach (IsFun c) vs i.env) same (subst (λ us. IsTrue b ↔ FitEach (IsFun c) values us) same_types tests) in
    (λ yes. (i.env, (i, told, is.0, is.1, λ k. i.env), both.0 yes), λ made. both.1 (kept_by c t f i told made))
