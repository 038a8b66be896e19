-- Values of what a label keeps and then of its parameters.
use Rattle.std.proofs.Common.{◌≡◌, sym, ap, subst, ◌∙◌, ℕ, ◌<◌, ◌+◌, List, ◌++◌, drop, length, length-append, take, arith}
use Rattle.std.proofs.lemmas.List.{take-append-drop}
use Rattle.lk_ast.specs.declared.value.Value.{Value}
use Rattle.lk_fits.proofs.Fitting.{as_many, fit_both}
use Rattle.lk_fits.specs.Values.{FitEach}
use Rattle.lk_types.specs.declared.ground.Ground.{Ground}
use Rattle.lk_code.proofs.Waiting.{AreCut, fit_cut}

module _ (IsFun : ℕ → Ground → List Ground → Type 0) (args : List Value) (env params : List Ground) where
  pub too_few : length args < length env → FitEach IsFun args (env ++ params) → ⊥
  too_few few fit = let long : length args ≡ length env + length params = as_many IsFun args (env ++ params) fit ∙ length-append env params in omega (arith, few, long)

  module _ (kept passed : List Value) (kept_is : kept ≡ take (length env) args) (passed_is : passed ≡ drop (length env) args) where
    pub together : FitEach IsFun kept env → FitEach IsFun passed params → FitEach IsFun args (env ++ params)
    together first rest =
        subst (λ values. FitEach IsFun values (env ++ params)) (ap (λ values. values ++ passed) kept_is ∙ ap (λ values. take (length env) args ++ values) passed_is ∙ take-append-drop (length env) args)
        (fit_both IsFun kept passed env params first rest)

    pub first_fit : FitEach IsFun args (env ++ params) → FitEach IsFun kept env
    first_fit fit = subst (λ values. FitEach IsFun values env) (sym kept_is) (fit_cut IsFun env params args fit).first

    pub rest_fit : FitEach IsFun args (env ++ params) → FitEach IsFun passed params
    rest_fit fit = subst (λ values. FitEach IsFun values params) (sym passed_is) (fit_cut IsFun env params args fit).rest
