-- Values of ground types (Pierce, Types and Programming Languages, 2002, sections 8.3 and 11), where functions are used at these
-- instances. A function value has a function type where the function that begins at its place is such an instance, or the lambda
-- there has it by the rules, with such nodes in its body, and the values that it keeps have the types of the names that it captured.
use Rattle.std.specs.Prelude.{◌≡◌, ℕ, ℤ, Bool, false, List, [], ◌∷◌, ◌++◌, Some, None}
use Rattle.lk_ast.specs.declared.declaration.FunDef.{FunDef}
use Rattle.lk_ast.specs.declared.declaration.Program.{Program}
use Rattle.lk_ast.specs.declared.expression.LambdaExpr.{LambdaExpr}
use Rattle.lk_ast.specs.declared.value.Field.{Field}
use Rattle.lk_ast.specs.declared.value.FunValue.{FunValue}
use Rattle.lk_ast.specs.declared.value.Value.{Value}
use Rattle.lk_ast.specs.declared.value.Value.TheVariants as value
use Rattle.lk_index.specs.Free.{captured}
use Rattle.lk_index.specs.Places.{function_at, lambda_at}
use Rattle.lk_operators.specs.Values.{int as number, truth, text as words, list as items, fields as record_value, tagged}
use Rattle.lk_types.specs.Each.{Each, OneOf}
use Rattle.lk_types.specs.Rows.{EffectSet}
use Rattle.lk_types.specs.declared.ground.Ground.{Ground}
use Rattle.lk_types.specs.declared.ground.Ground.TheVariants as known
use Rattle.lk_types.specs.declared.ground.GroundField.{GroundField}
use Rattle.lk_typing.specs.Names.{Named, names_of, types_of, texts, Entry}
use Rattle.lk_ast.specs.Tables.{tables_of}
use Rattle.lk_typing.specs.Types.{function_of}
use Rattle.lk_typing.specs.Typing.{HasType}
use Rattle.lk_sound.specs.Instances.{Instances, IsFine, IsListed}
use Rattle.lk_sound.specs.Nodes.{nodes_of}

module _ (p : Program) (i : Instances) where
  mutual
    -- the value has the type
    pub data Fits : Value → Ground → Type 0 where
      int : {v : Value} {t : Ground} (n : ℤ) → v ≡ number n → t ≡ known.Int → Fits v t
      bool : {v : Value} {t : Ground} (b : Bool) → v ≡ truth b → t ≡ known.Bool → Fits v t
      text : {v : Value} {t : Ground} (bytes : List ℕ) → v ≡ words bytes → t ≡ known.Text → Fits v t
      list : {v : Value} {t : Ground} (values : List Value) (a : Ground) → v ≡ items values → AllFit values a → t ≡ known.List a → Fits v t
      -- fields one by one, in the same order
      fields : {v : Value} {t : Ground} (fs : List Field) (gs : List GroundField) → v ≡ record_value fs → FieldsFit fs gs → t ≡ known.Fields gs → Fits v t
      -- one of the tags, with a value of its type
      tag : {v : Value} {t : Ground} (held : Value) (g : GroundField) (gs : List GroundField) → v ≡ tagged g.label held → OneOf (λ other. other ≡ g) gs → Fits held g.ty → t ≡ known.Tags gs → Fits v t
      -- an instance, which captures nothing
      function : {v : Value} {t : Ground} (f : FunDef) (site : ℕ) (ts : List Ground) (own : EffectSet) (b : Ground) → v ≡ value.Fun (record { site = site; env = [] }) → function_at p site ≡ Some f
          → IsListed i.mains (record { name = f.name.text; type = t }) → t ≡ function_of ts own b → Fits v t
      -- a lambda, with values for the names that it captured
      lambda : {v : Value} {t : Ground} (f : FunValue) (l : LambdaExpr) (functions : Named (Entry Ground)) (params kept : Named Ground) (own : EffectSet) (b : Ground) (inside : List Ground)
          → v ≡ value.Fun f → function_at p f.site ≡ None → lambda_at p f.site ≡ Some l
          → names_of kept ≡ captured l → FitEach f.env (types_of kept)
          → names_of params ≡ texts l.params
          → (typed : HasType functions (tables_of p) (params ++ kept) own l.body b inside) → Each (IsFine i) (nodes_of false typed)
          → t ≡ function_of (types_of params) own b
          → Fits v t

    -- each value has that type
    pub data AllFit : List Value → Ground → Type 0 where
      none : {t : Ground} → AllFit [] t
      more : {v : Value} {values : List Value} {t : Ground} → Fits v t → AllFit values t → AllFit (v ∷ values) t

    -- the first value has the first type, and so on
    pub data FitEach : List Value → List Ground → Type 0 where
      none_left : FitEach [] []
      one_more : {v : Value} {values : List Value} {t : Ground} {ts : List Ground} → Fits v t → FitEach values ts → FitEach (v ∷ values) (t ∷ ts)

    -- the first field has the first label and a value of its type, and so on
    pub data FieldsFit : List Field → List GroundField → Type 0 where
      no_field : FieldsFit [] []
      field : {f : Field} {fs : List Field} {g : GroundField} {gs : List GroundField} → f.label ≡ g.label → Fits f.value g.ty → FieldsFit fs gs → FieldsFit (f ∷ fs) (g ∷ gs)
