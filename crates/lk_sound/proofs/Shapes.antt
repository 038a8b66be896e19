-- Values by their types: what a value of a type is, and values that have one.
use Rattle.std.proofs.Common.{◌≡◌, refl, sym, ap, subst, ◌∙◌, ℕ, ℤ, Bool, true, false, List, [], ◌∷◌, ◌++◌, Option, Some, None}
use Rattle.lk_ast.specs.declared.declaration.FunDef.{FunDef}
use Rattle.lk_ast.specs.declared.declaration.Program.{Program}
use Rattle.lk_ast.specs.declared.expression.LambdaExpr.{LambdaExpr}
use Rattle.lk_ast.specs.declared.value.Field.{Field}
use Rattle.lk_ast.specs.declared.value.FunValue.{FunValue}
use Rattle.lk_ast.specs.declared.value.Value.{Value}
use Rattle.lk_ast.specs.declared.value.Value.TheVariants as value
use Rattle.lk_index.specs.Free.{captured}
use Rattle.lk_index.specs.Places.{function_at, lambda_at}
use Rattle.lk_operators.specs.Values.{int as number, truth, text as words, list as items, fields as record_value, tagged, is_unit, int_in, bool_in, text_in, list_in, fields_in, tag_in, fun_in, unit as unit_value}
use Rattle.lk_types.specs.Each.{Each, OneOf}
use Rattle.lk_types.specs.Rows.{Label, EffectSet, effects_of}
use Rattle.lk_types.specs.declared.ground.Ground.{Ground, out-Ground}
use Rattle.lk_types.specs.declared.ground.Ground.TheOpen.{Ground-F}
use Rattle.lk_types.specs.declared.ground.Ground.TheVariants as known
use Rattle.lk_types.specs.declared.ground.GroundField.{GroundField}
use Rattle.lk_typing.specs.Names.{Named, names_of, types_of, texts, Entry}
use Rattle.lk_ast.specs.Tables.{tables_of}
use Rattle.lk_typing.specs.Types.{unit, function_of}
use Rattle.lk_typing.specs.Typing.{HasType}
use Rattle.lk_sound.specs.Instances.{Instances, IsFine, IsListed}
use Rattle.lk_sound.specs.Nodes.{nodes_of}
use Rattle.lk_sound.proofs.FieldRows.{as_fields, no_entries}
use Rattle.lk_sound.specs.Values.{Fits, AllFit, FitEach, FieldsFit, no_field}

-- the type of records without fields
unit_is : unit ≡ known.Fields []
unit_is = ap (λ entries. known.Fields (as_fields entries)) (no_entries Ground)

module _ (p : Program) (i : Instances) (v : Value) where
  -- a value of a type of records is one with these fields
  pub record IsRecord (gs : List GroundField) : Type 0 where
    pub fs : List Field
    pub is : v ≡ record_value fs
    pub fit : FieldsFit p i fs gs

  -- a value of a type of tags is one of them with a value of its type
  pub record IsTagged (gs : List GroundField) : Type 0 where
    pub held : Value
    pub g : GroundField
    pub is : v ≡ tagged g.label held
    pub one : OneOf (λ other. other ≡ g) gs
    pub fit : Fits p i held g.ty

  -- a value of a type of functions is an instance, or a lambda with what it keeps
  pub data IsMade (t : Ground) : Type 0 where
    function : (f : FunDef) (site : ℕ) → fun_in v ≡ Some (record { site = site; env = [] }) → function_at p site ≡ Some f → IsListed i.mains (record { name = f.name.text; type = t }) → IsMade t
    lambda : (f : FunValue) (l : LambdaExpr) (functions : Named (Entry Ground)) (params kept : Named Ground) (own : EffectSet) (b : Ground) (inside : List Ground)
        → fun_in v ≡ Some f → function_at p f.site ≡ None → lambda_at p f.site ≡ Some l
        → names_of kept ≡ captured l → FitEach p i f.env (types_of kept)
        → names_of params ≡ texts l.params
        → (typed : HasType functions (tables_of p) (params ++ kept) own l.body b inside) → Each (IsFine i) (nodes_of false typed)
        → t ≡ function_of (types_of params) own b
        → IsMade t

  abbrev Shape : Ground → Ground-F Ground GroundField → Type 0
  Shape t Ground-F.Int = (n : ℤ) × (v ≡ number n)
  Shape t Ground-F.Bool = (b : Bool) × (v ≡ truth b)
  Shape t Ground-F.Text = (bytes : List ℕ) × (v ≡ words bytes)
  Shape t (Ground-F.List a) = (values : List Value) × (v ≡ items values) × AllFit p i values a
  Shape t (Ground-F.Fields gs) = IsRecord gs
  Shape t (Ground-F.Tags gs) = IsTagged gs
  Shape t (Ground-F.Fun ts es a) = IsMade t

  shaped : (t u : Ground) (x : Ground-F Ground GroundField) → t ≡ u → out-Ground u ≡ x → Shape t x → Shape t (out-Ground t)
  shaped t u x is out shape = subst (λ y. Shape t y) (sym (ap out-Ground is ∙ out)) shape

  function_shown : (f : FunValue) → v ≡ value.Fun f → fun_in v ≡ Some f
  function_shown f is = ap fun_in is ∙ simp (value.outs-Fun)

  -- what a value is, by its type
  shape : (t : Ground) → Fits p i v t → Shape t (out-Ground t)
  shape t (Fits.int n is same) = shaped t known.Int Ground-F.Int same known.outs-Int (n, is)
  shape t (Fits.bool b is same) = shaped t known.Bool Ground-F.Bool same known.outs-Bool (b, is)
  shape t (Fits.text bytes is same) = shaped t known.Text Ground-F.Text same known.outs-Text (bytes, is)
  shape t (Fits.list values a is fit same) = shaped t (known.List a) (Ground-F.List a) same (known.outs-List a) (values, is, fit)
  shape t (Fits.fields fs gs is fit same) = shaped t (known.Fields gs) (Ground-F.Fields gs) same (known.outs-Fields gs) (record { fs = fs; is = is; fit = fit })
  shape t (Fits.tag held g gs is one fit same) = shaped t (known.Tags gs) (Ground-F.Tags gs) same (known.outs-Tags gs) (record { held = held; g = g; is = is; one = one; fit = fit })
  shape t (Fits.function f site ts own b is there listed same) =
      shaped t (function_of ts own b) (Ground-F.Fun _ _ _) same (known.outs-Fun _ _ _) (function f site (function_shown _ is) there listed)
  shape t (Fits.lambda f l functions params kept own b inside is no_function there are_kept env named typed fine same) =
      shaped t (function_of (types_of params) own b) (Ground-F.Fun _ _ _) same (known.outs-Fun _ _ _)
      (lambda f l functions params kept own b inside (function_shown f is) no_function there are_kept env named typed fine same)

  shape_at : (t : Ground) (x : Ground-F Ground GroundField) → out-Ground t ≡ x → Fits p i v t → Shape t x
  shape_at t x out fits = subst (λ y. Shape t y) out (shape t fits)

  -- ---- what a value of a type shows

  pub int_of_fits : Fits p i v known.Int → (n : ℤ) × (int_in v ≡ Some n)
  int_of_fits fits = let found = shape_at known.Int Ground-F.Int known.outs-Int fits in (found.0, ap int_in found.1 ∙ simp (value.outs-Base))

  pub bool_of_fits : Fits p i v known.Bool → (b : Bool) × (bool_in v ≡ Some b)
  bool_of_fits fits = let found = shape_at known.Bool Ground-F.Bool known.outs-Bool fits in (found.0, ap bool_in found.1 ∙ simp (value.outs-Base))

  pub text_of_fits : Fits p i v known.Text → (bytes : List ℕ) × (text_in v ≡ Some bytes)
  text_of_fits fits = let found = shape_at known.Text Ground-F.Text known.outs-Text fits in (found.0, ap text_in found.1 ∙ simp (value.outs-Base))

  pub fits_list : (a : Ground) → Fits p i v (known.List a) → (values : List Value) × (v ≡ items values) × AllFit p i values a
  fits_list a fits = shape_at (known.List a) (Ground-F.List a) (known.outs-List a) fits

  pub list_of_fits : (a : Ground) → Fits p i v (known.List a) → (values : List Value) × (list_in v ≡ Some values) × AllFit p i values a
  list_of_fits a fits = let found = fits_list a fits in (found.0, ap list_in found.1 ∙ simp (value.outs-List), found.2)

  pub fits_fields : (gs : List GroundField) → Fits p i v (known.Fields gs) → IsRecord gs
  fits_fields gs fits = shape_at (known.Fields gs) (Ground-F.Fields gs) (known.outs-Fields gs) fits

  pub fits_tags : (gs : List GroundField) → Fits p i v (known.Tags gs) → IsTagged gs
  fits_tags gs fits = shape_at (known.Tags gs) (Ground-F.Tags gs) (known.outs-Tags gs) fits

  pub made_of_fits : (ts : List Ground) (effects : EffectSet) (a : Ground) → Fits p i v (function_of ts effects a) → IsMade (function_of ts effects a)
  made_of_fits ts effects a fits = shape_at (function_of ts effects a) (Ground-F.Fun ts (effects_of effects) a) (known.outs-Fun _ _ _) fits

  no_fields_left : (fs : List Field) → FieldsFit p i fs [] → fs ≡ []
  no_fields_left [] no_field = refl
  no_fields_left (f ∷ fs) fit = elim fit [ ]

  pub unit_of_fits : Fits p i v unit → is_unit v ≡ true
  unit_of_fits fits = let found = fits_fields [] (subst (λ t. Fits p i v t) unit_is fits) in ap is_unit (found.is ∙ ap record_value (no_fields_left found.fs found.fit)) ∙ simp (value.outs-Fields)

-- ---- values that have a type

module _ (p : Program) (i : Instances) where
  pub int_fits : (n : ℤ) → Fits p i (number n) known.Int
  int_fits n = Fits.int n refl refl

  pub truth_fits : (b : Bool) → Fits p i (truth b) known.Bool
  truth_fits b = Fits.bool b refl refl

  pub text_fits : (bytes : List ℕ) → Fits p i (words bytes) known.Text
  text_fits bytes = Fits.text bytes refl refl

  pub list_fits : (values : List Value) (a : Ground) → AllFit p i values a → Fits p i (items values) (known.List a)
  list_fits values a fit = Fits.list values a refl fit refl

  pub unit_fits : Fits p i unit_value unit
  unit_fits = Fits.fields [] [] refl no_field unit_is

-- ---- what a record or a tag shows of itself

pub fields_shown : (fs : List Field) → fields_in (record_value fs) ≡ Some fs
fields_shown fs = simp (value.outs-Fields)

pub tag_shown : (l : Label) (v : Value) → ◌≡◌ {A = Option (Label × Value)} (tag_in (tagged l v)) (Some (l, v))
tag_shown l v = simp (value.outs-Tag)
