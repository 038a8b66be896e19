-- No function stands in a value of a type in which none stands; so what a query captures has none.
use Rattle.std.proofs.Common.{◌≡◌, Bool, true, false, ◌||◌, List, [], ◌∷◌, inl, inr, refl, sym, ap, ◌∙◌}
use Rattle.std.proofs.lemmas.Bool.{or_from}
use Rattle.std.specs.List.{list_any}
use Rattle.lk_ast.proofs.PlainLevels.{of_base, of_list, of_fields, of_tag}
use Rattle.lk_ast.specs.Plain.{holds_function}
use Rattle.lk_ast.specs.declared.declaration.Program.{Program}
use Rattle.lk_ast.specs.declared.table.Base.TheVariants as base
use Rattle.lk_ast.specs.declared.value.Field.{Field}
use Rattle.lk_ast.specs.declared.value.Value.{Value}
use Rattle.lk_ground_types.proofs.ShapesUnfold.{function_list, function_fields, function_tags, function_fun}
use Rattle.lk_ground_types.specs.Shapes.{has_function, is_flat}
use Rattle.lk_sound.proofs.FlatTypes.{flat_plain}
use Rattle.lk_sound.specs.Instances.{Instances}
use Rattle.lk_sound.specs.Tables.{ArePlain}
use Rattle.lk_sound.specs.Values.{Fits, AllFit, FitEach, FieldsFit, none_left, one_more}
use Rattle.lk_types.specs.Each.{Each, OneOf}
use Rattle.lk_types.specs.Rows.{effects_of}
use Rattle.lk_types.specs.declared.ground.Ground.{Ground}
use Rattle.lk_types.specs.declared.ground.Ground.TheVariants as known
use Rattle.lk_types.specs.declared.ground.GroundField.{GroundField}
use Rattle.lk_types.specs.declared.ty.Effect.{Effect}
use Rattle.lk_typing.specs.Names.{types_of}

first_not : (a b : Bool) → (a || b) ≡ false → a ≡ false
first_not false b none = refl
first_not true b none = absurd cc

second_not : (a b : Bool) → (a || b) ≡ false → b ≡ false
second_not false b none = none
second_not true b none = absurd cc

-- of these types, none of which has a function, each has none
one_of_none : (g : GroundField) (gs : List GroundField) → OneOf (λ other. other ≡ g) gs → list_any (λ f. has_function f.ty) gs ≡ false → has_function g.ty ≡ false
one_of_none g [] among none = elim among [ ]
one_of_none g (h ∷ gs) (inl same) none = ap (λ (f : GroundField). has_function f.ty) (sym same) ∙ first_not (has_function h.ty) _ none
one_of_none g (h ∷ gs) (inr among) none = one_of_none g gs among (second_not (has_function h.ty) _ none)

-- a function type has a function
never : (t : Ground) (params : List Ground) (effects : List Effect) (answer : Ground) → t ≡ known.Fun params effects answer → has_function t ≡ false → ⊥
never t params effects answer is none = let wrong : true ≡ false = sym (function_fun params effects answer) ∙ ap has_function (sym is) ∙ none in cc

module _ (p : Program) (i : Instances) where
  mutual
    pub plain : (v : Value) (t : Ground) → Fits p i v t → has_function t ≡ false → holds_function v ≡ false
    plain v t (Fits.int n is of) none = ap holds_function is ∙ of_base (base.Int n)
    plain v t (Fits.bool b is of) none = ap holds_function is ∙ of_base (base.Bool b)
    plain v t (Fits.text bytes is of) none = ap holds_function is ∙ of_base (base.Text bytes)
    plain v t (Fits.list values a is all of) none = ap holds_function is ∙ of_list values ∙ each_plain values a all (sym (ap has_function of ∙ function_list a) ∙ none)
    plain v t (Fits.fields fs gs is each of) none = ap holds_function is ∙ of_fields fs ∙ fields_plain fs gs each (sym (ap has_function of ∙ function_fields gs) ∙ none)
    plain v t (Fits.tag held g gs is among fit of) none = ap holds_function is ∙ of_tag g.label held ∙ plain held g.ty fit (one_of_none g gs among (sym (ap has_function of ∙ function_tags gs) ∙ none))
    plain v t (Fits.function f site ts own b is at listed of) none = absurd (never t ts (effects_of own) b of none)
    plain v t (Fits.lambda f l functions params kept own b inside is no_function there are_kept env named typed fine of) none = absurd (never t (types_of params) (effects_of own) b of none)

    each_plain : (values : List Value) (t : Ground) → AllFit p i values t → has_function t ≡ false → list_any holds_function values ≡ false
    each_plain [] t AllFit.none none = refl
    each_plain (v ∷ values) t (AllFit.more fit fits) none = or_from (holds_function v) _ (plain v t fit none) (each_plain values t fits none)

    fields_plain : (fs : List Field) (gs : List GroundField) → FieldsFit p i fs gs → list_any (λ g. has_function g.ty) gs ≡ false → list_any (λ f. holds_function f.value) fs ≡ false
    fields_plain [] [] FieldsFit.no_field none = refl
    fields_plain (f ∷ fs) (g ∷ gs) (FieldsFit.field same fit fits) none = or_from (holds_function f.value) _ (plain f.value g.ty fit (first_not (has_function g.ty) _ none)) (fields_plain fs gs fits (second_not (has_function g.ty) _ none))

  -- values of flat types
  pub all_plain : (args : List Value) (ts : List Ground) → FitEach p i args ts → Each (λ t. is_flat t ≡ true) ts → ArePlain args
  all_plain [] [] none_left flat = refl
  all_plain (v ∷ args) (t ∷ ts) (one_more fit fits) (flat, others) = or_from (holds_function v) _ (plain v t fit (flat_plain t flat)) (all_plain args ts fits others)
  all_plain [] (t ∷ ts) fit flat = elim fit [ ]
  all_plain (v ∷ args) [] fit flat = elim fit [ ]
