-- Values by their types: what a value of a type is, and values that have one.
use Rattle.std.proofs.Common.{◌≡◌, refl, sym, ap, subst, ◌∙◌, ℕ, ℤ, Bool, true, List, [], ◌∷◌, Some}
use Rattle.lk_ast.specs.declared.value.Field.{Field}
use Rattle.lk_ast.specs.declared.value.FunValue.{FunValue}
use Rattle.lk_ast.specs.declared.value.Value.{Value}
use Rattle.lk_ast.specs.declared.value.Value.TheVariants as value
use Rattle.lk_operators.specs.Values.{int as number, truth, text as words, list as items, fields as record_value, tagged, is_unit, int_in, bool_in, text_in, list_in, unit as unit_value}
use Rattle.lk_types.specs.Each.{OneOf}
use Rattle.lk_types.specs.declared.ty.Effect.{Effect}
use Rattle.lk_types.specs.declared.ground.Ground.{Ground, out-Ground}
use Rattle.lk_types.specs.declared.ground.Ground.TheOpen.{Ground-F}
use Rattle.lk_types.specs.declared.ground.Ground.TheVariants as known
use Rattle.lk_types.specs.declared.ground.GroundField.{GroundField}
use Rattle.lk_typing.specs.Types.{unit}
use Rattle.lk_sound.proofs.FieldRows.{as_fields, no_entries}
use Rattle.lk_fits.specs.Values.{Fits, AllFit, FitEach, FieldsFit, no_field}

-- the type of records without fields
unit_is : unit ≡ known.Fields []
unit_is = ap (λ entries. known.Fields (as_fields entries)) (no_entries Ground)

module _ (IsFun : ℕ → Ground → List Ground → Type 0) (v : Value) where
  -- a value of a type of records is one with these fields
  pub record IsRecord (gs : List GroundField) : Type 0 where
    pub fs : List Field
    pub is : v ≡ record_value fs
    pub fit : FieldsFit IsFun fs gs

  -- a value of a type of tags is one of them with a value of its type
  pub record IsTagged (gs : List GroundField) : Type 0 where
    pub held : Value
    pub g : GroundField
    pub is : v ≡ tagged g.label held
    pub one : OneOf (λ other. other ≡ g) gs
    pub fit : Fits IsFun held g.ty

  -- a value of a type of functions is what has a number, with what it keeps
  pub record IsMade (t : Ground) : Type 0 where
    pub f : FunValue
    pub is : v ≡ value.Fun f
    pub kept : List Ground
    pub fun : IsFun f.site t kept
    pub env : FitEach IsFun f.env kept

  abbrev Shape : Ground → Ground-F Ground GroundField → Type 0
  Shape t Ground-F.Int = (n : ℤ) × (v ≡ number n)
  Shape t Ground-F.Bool = (b : Bool) × (v ≡ truth b)
  Shape t Ground-F.Text = (bytes : List ℕ) × (v ≡ words bytes)
  Shape t (Ground-F.List a) = (values : List Value) × (v ≡ items values) × AllFit IsFun values a
  Shape t (Ground-F.Fields gs) = IsRecord gs
  Shape t (Ground-F.Tags gs) = IsTagged gs
  Shape t (Ground-F.Fun ts es a) = IsMade t

  shaped : (t u : Ground) (x : Ground-F Ground GroundField) → t ≡ u → out-Ground u ≡ x → Shape t x → Shape t (out-Ground t)
  shaped t u x is out shape = subst (λ y. Shape t y) (sym (ap out-Ground is ∙ out)) shape

  -- what a value is, by its type
  shape : (t : Ground) → Fits IsFun v t → Shape t (out-Ground t)
  shape t (Fits.int n is same) = shaped t known.Int Ground-F.Int same known.outs-Int (n, is)
  shape t (Fits.bool b is same) = shaped t known.Bool Ground-F.Bool same known.outs-Bool (b, is)
  shape t (Fits.text bytes is same) = shaped t known.Text Ground-F.Text same known.outs-Text (bytes, is)
  shape t (Fits.list values a is fit same) = shaped t (known.List a) (Ground-F.List a) same (known.outs-List a) (values, is, fit)
  shape t (Fits.fields fs gs is fit same) = shaped t (known.Fields gs) (Ground-F.Fields gs) same (known.outs-Fields gs) (record { fs = fs; is = is; fit = fit })
  shape t (Fits.tag held g gs is one fit same) = shaped t (known.Tags gs) (Ground-F.Tags gs) same (known.outs-Tags gs) (record { held = held; g = g; is = is; one = one; fit = fit })
  shape t (Fits.function f ts kept effects b is fun env same) =
      shaped t (known.Fun ts effects b) (Ground-F.Fun ts effects b) same (known.outs-Fun ts effects b) (record { f = f; is = is; kept = kept; fun = fun; env = env })

  shape_at : (t : Ground) (x : Ground-F Ground GroundField) → out-Ground t ≡ x → Fits IsFun v t → Shape t x
  shape_at t x out fits = subst (λ y. Shape t y) out (shape t fits)

  -- ---- what a value of a type shows

  pub int_of_fits : Fits IsFun v known.Int → (n : ℤ) × (int_in v ≡ Some n)
  int_of_fits fits = let found = shape_at known.Int Ground-F.Int known.outs-Int fits in (found.0, ap int_in found.1 ∙ simp (value.outs-Base))

  pub bool_of_fits : Fits IsFun v known.Bool → (b : Bool) × (bool_in v ≡ Some b)
  bool_of_fits fits = let found = shape_at known.Bool Ground-F.Bool known.outs-Bool fits in (found.0, ap bool_in found.1 ∙ simp (value.outs-Base))

  pub text_of_fits : Fits IsFun v known.Text → (bytes : List ℕ) × (text_in v ≡ Some bytes)
  text_of_fits fits = let found = shape_at known.Text Ground-F.Text known.outs-Text fits in (found.0, ap text_in found.1 ∙ simp (value.outs-Base))

  pub fits_list : (a : Ground) → Fits IsFun v (known.List a) → (values : List Value) × (v ≡ items values) × AllFit IsFun values a
  fits_list a fits = shape_at (known.List a) (Ground-F.List a) (known.outs-List a) fits

  pub list_of_fits : (a : Ground) → Fits IsFun v (known.List a) → (values : List Value) × (list_in v ≡ Some values) × AllFit IsFun values a
  list_of_fits a fits = let found = fits_list a fits in (found.0, ap list_in found.1 ∙ simp (value.outs-List), found.2)

  pub fits_fields : (gs : List GroundField) → Fits IsFun v (known.Fields gs) → IsRecord gs
  fits_fields gs fits = shape_at (known.Fields gs) (Ground-F.Fields gs) (known.outs-Fields gs) fits

  pub fits_tags : (gs : List GroundField) → Fits IsFun v (known.Tags gs) → IsTagged gs
  fits_tags gs fits = shape_at (known.Tags gs) (Ground-F.Tags gs) (known.outs-Tags gs) fits

  pub made_of_fits : (ts : List Ground) (effects : List Effect) (a : Ground) → Fits IsFun v (known.Fun ts effects a) → IsMade (known.Fun ts effects a)
  made_of_fits ts effects a fits = shape_at (known.Fun ts effects a) (Ground-F.Fun ts effects a) (known.outs-Fun ts effects a) fits

  no_fields_left : (fs : List Field) → FieldsFit IsFun fs [] → fs ≡ []
  no_fields_left [] no_field = refl
  no_fields_left (f ∷ fs) fit = elim fit [ ]

  pub unit_of_fits : Fits IsFun v unit → is_unit v ≡ true
  unit_of_fits fits = let found = fits_fields [] (subst (λ t. Fits IsFun v t) unit_is fits) in ap is_unit (found.is ∙ ap record_value (no_fields_left found.fs found.fit)) ∙ simp (value.outs-Fields)

-- ---- values that have a type

module _ (IsFun : ℕ → Ground → List Ground → Type 0) where
  pub int_fits : (n : ℤ) → Fits IsFun (number n) known.Int
  int_fits n = Fits.int n refl refl

  pub truth_fits : (b : Bool) → Fits IsFun (truth b) known.Bool
  truth_fits b = Fits.bool b refl refl

  pub text_fits : (bytes : List ℕ) → Fits IsFun (words bytes) known.Text
  text_fits bytes = Fits.text bytes refl refl

  pub list_fits : (values : List Value) (a : Ground) → AllFit IsFun values a → Fits IsFun (items values) (known.List a)
  list_fits values a fit = Fits.list values a refl fit refl

  pub unit_fits : Fits IsFun unit_value unit
  unit_fits = Fits.fields [] [] refl no_field unit_is

-- ---- what a record or a tag shows of itself
