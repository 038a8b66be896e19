-- Values of ground types (Pierce, Types and Programming Languages, 2002, sections 8.3 and 11), whatever a function is: what has a
-- number is said to be of a type and to keep values of some types.
use Rattle.std.specs.Prelude.{◌≡◌, ℕ, ℤ, Bool, List, [], ◌∷◌}
use Rattle.lk_ast.specs.declared.value.Field.{Field}
use Rattle.lk_ast.specs.declared.value.FunValue.{FunValue}
use Rattle.lk_ast.specs.declared.value.Value.{Value}
use Rattle.lk_ast.specs.declared.value.Value.TheVariants as value
use Rattle.lk_operators.specs.Values.{int as number, truth, text as words, list as items, fields as record_value, tagged}
use Rattle.lk_types.specs.Each.{OneOf}
use Rattle.lk_types.specs.declared.ground.Ground.{Ground}
use Rattle.lk_types.specs.declared.ground.Ground.TheVariants as known
use Rattle.lk_types.specs.declared.ground.GroundField.{GroundField}
use Rattle.lk_types.specs.declared.ty.Effect.{Effect}

module _ (IsFun : ℕ → Ground → List Ground → Type 0) where
  mutual
    -- the value is of the type
    pub data Fits : Value → Ground → Type 0 where
      int : {v : Value} {t : Ground} (n : ℤ) → v ≡ number n → t ≡ known.Int → Fits v t
      bool : {v : Value} {t : Ground} (b : Bool) → v ≡ truth b → t ≡ known.Bool → Fits v t
      text : {v : Value} {t : Ground} (bytes : List ℕ) → v ≡ words bytes → t ≡ known.Text → Fits v t
      list : {v : Value} {t : Ground} (values : List Value) (a : Ground) → v ≡ items values → AllFit values a → t ≡ known.List a → Fits v t
      -- fields one by one, in the same order
      fields : {v : Value} {t : Ground} (fs : List Field) (gs : List GroundField) → v ≡ record_value fs → FieldsFit fs gs → t ≡ known.Fields gs → Fits v t
      -- one of the tags, with a value of its type
      tag : {v : Value} {t : Ground} (held : Value) (g : GroundField) (gs : List GroundField) → v ≡ tagged g.label held → OneOf (λ other. other ≡ g) gs → Fits held g.ty → t ≡ known.Tags gs → Fits v t
      -- what has this number is of a type of functions, and the values that it keeps are of their types
      function : {v : Value} {t : Ground} (f : FunValue) (ts kept : List Ground) (effects : List Effect) (b : Ground) → v ≡ value.Fun f → IsFun f.site t kept → FitEach f.env kept → t ≡ known.Fun ts effects b → Fits v t

    -- each value is of that type
    pub data AllFit : List Value → Ground → Type 0 where
      none : {t : Ground} → AllFit [] t
      more : {v : Value} {values : List Value} {t : Ground} → Fits v t → AllFit values t → AllFit (v ∷ values) t

    -- the first value is of the first type, and so on
    pub data FitEach : List Value → List Ground → Type 0 where
      none_left : FitEach [] []
      one_more : {v : Value} {values : List Value} {t : Ground} {ts : List Ground} → Fits v t → FitEach values ts → FitEach (v ∷ values) (t ∷ ts)

    -- the first field has the first label and a value of its type, and so on
    pub data FieldsFit : List Field → List GroundField → Type 0 where
      no_field : FieldsFit [] []
      field : {f : Field} {fs : List Field} {g : GroundField} {gs : List GroundField} → f.label ≡ g.label → Fits f.value g.ty → FieldsFit fs gs → FieldsFit (f ∷ fs) (g ∷ gs)
