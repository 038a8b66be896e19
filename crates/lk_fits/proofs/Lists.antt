-- Values that fit: one more, lists behind one another, and what holds of one or two of them.
use Rattle.std.proofs.Common.{ℕ, List, [], ◌∷◌, ◌++◌}
use Rattle.lk_ast.specs.declared.value.Value.{Value}
use Rattle.lk_types.specs.declared.ground.Ground.{Ground}
use Rattle.lk_fits.specs.Values.{Fits, AllFit, FitEach, none, more, none_left, one_more}

module _ (IsFun : ℕ → Ground → List Ground → Type 0) where
  pub all_fit_both : (xs ys : List Value) (a : Ground) → AllFit IsFun xs a → AllFit IsFun ys a → AllFit IsFun (xs ++ ys) a
  all_fit_both [] ys a none fit = fit
  all_fit_both (x ∷ xs) ys a (more fx fxs) fit = more fx (all_fit_both xs ys a fxs fit)

  -- ---- the values of one, two or more parts

  module _ (P : List Value → Type 0) where
    pub on_none : P [] → (values : List Value) → FitEach IsFun values [] → P values
    on_none is [] none_left = is
    on_none is (v ∷ values) fit = elim fit [ ]

    pub on_first : (t : Ground) (ts : List Ground) → ((v : Value) (values : List Value) → Fits IsFun v t → FitEach IsFun values ts → P (v ∷ values)) → (values : List Value) → FitEach IsFun values (t ∷ ts) → P values
    on_first t ts is [] fit = elim fit [ ]
    on_first t ts is (v ∷ values) (one_more fits fit) = is v values fits fit

  on_one_left : (P : List Value → Type 0) (v : Value) → P (v ∷ []) → (values : List Value) → FitEach IsFun values [] → P (v ∷ values)
  on_one_left P v is values fit = on_none (λ rest. P (v ∷ rest)) is values fit

  pub on_one : (P : List Value → Type 0) (t : Ground) → ((v : Value) → Fits IsFun v t → P (v ∷ [])) → (values : List Value) → FitEach IsFun values (t ∷ []) → P values
  on_one P t is values fit = on_first P t [] (λ v rest fits left. on_one_left P v (is v fits) rest left) values fit
