-- Values that fit, one after another.
use Rattle.std.proofs.Common.{◌≡◌, refl, ap, ℕ, suc, List, [], ◌∷◌, ◌++◌, length}
use Rattle.lk_ast.specs.declared.value.Field.{Field}
use Rattle.lk_ast.specs.declared.value.Value.{Value}
use Rattle.lk_types.specs.declared.ground.Ground.{Ground}
use Rattle.lk_types.specs.declared.ground.GroundField.{GroundField}
use Rattle.lk_fits.specs.Values.{Fits, AllFit, FitEach, FieldsFit, none, more, none_left, one_more, no_field, field}

module _ (IsFun : ℕ → Ground → List Ground → Type 0) where
  -- ---- of one type

  pub first_of_all : {v : Value} {values : List Value} {t : Ground} → AllFit IsFun (v ∷ values) t → Fits IsFun v t × AllFit IsFun values t
  first_of_all (more fits fit) = (fits, fit)

  -- ---- of types one by one

  pub first_of_each : {v : Value} {values : List Value} {t : Ground} {ts : List Ground} → FitEach IsFun (v ∷ values) (t ∷ ts) → Fits IsFun v t × FitEach IsFun values ts
  first_of_each (one_more fits fit) = (fits, fit)

  -- as many values as types
  pub as_many : (values : List Value) (ts : List Ground) → FitEach IsFun values ts → length values ≡ length ts
  as_many [] [] none_left = refl
  as_many [] (t ∷ ts) fit = elim fit [ ]
  as_many (v ∷ values) [] fit = elim fit [ ]
  as_many (v ∷ values) (t ∷ ts) (one_more fits fit) = ap suc (as_many values ts fit)

  -- values behind one another
  pub fit_both : (values others : List Value) (ts us : List Ground) → FitEach IsFun values ts → FitEach IsFun others us → FitEach IsFun (values ++ others) (ts ++ us)
  fit_both [] others [] us none_left fit = fit
  fit_both [] others (t ∷ ts) us first fit = elim first [ ]
  fit_both (v ∷ values) others [] us first fit = elim first [ ]
  fit_both (v ∷ values) others (t ∷ ts) us (one_more fits first) fit = one_more fits (fit_both values others ts us first fit)

  -- ---- of fields

  pub first_field : {f : Field} {fs : List Field} {g : GroundField} {gs : List GroundField} → FieldsFit IsFun (f ∷ fs) (g ∷ gs) → (f.label ≡ g.label) × Fits IsFun f.value g.ty × FieldsFit IsFun fs gs
  first_field (field same fits fit) = (same, fits, fit)

  pub as_many_fields : (fs : List Field) (gs : List GroundField) → FieldsFit IsFun fs gs → length fs ≡ length gs
  as_many_fields [] [] no_field = refl
  as_many_fields [] (g ∷ gs) fit = elim fit [ ]
  as_many_fields (f ∷ fs) [] fit = elim fit [ ]
  as_many_fields (f ∷ fs) (g ∷ gs) (field same fits fit) = ap suc (as_many_fields fs gs fit)
