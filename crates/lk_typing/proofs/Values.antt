-- What the types of the equations become, and what an equation says of it.
use Rattle.std.proofs.Common.{◌≡◌, ℕ, List, [], ◌∷◌, map, refl, sym, ap, ap₂, ◌∙◌, Option, Some, None}
use Rattle.std.specs.Option.{option_map}
use Rattle.lk_ast.specs.declared.table.BaseKind.{BaseKind}
use Rattle.lk_ast.specs.declared.table.BaseKind.TheVariants as kind
use Rattle.lk_types.proofs.Parts.{same_some, row_as_fields}
use Rattle.lk_types.proofs.Unfold.{under_int, under_bool, under_text, under_list, under_fields, under_tags, under_function, under_variable, under_field}
use Rattle.lk_types.specs.Grounding as grounding
use Rattle.lk_types.specs.Grounding.{Grounding, Known, under, row_under, field_under, effects_under, before_row, before_effects, all_of, row_tail, effect_tail}
use Rattle.lk_types.specs.Rows.{EffectSet}
use Rattle.lk_types.specs.Solutions.{IsMet}
use Rattle.lk_types.specs.declared.ground.Ground.{Ground}
use Rattle.lk_types.specs.declared.ground.Ground.TheVariants as known
use Rattle.lk_types.specs.declared.ty.Effects.{Effects}
use Rattle.lk_types.specs.declared.ty.RowTail.{RowTail}
use Rattle.lk_types.specs.declared.ty.RowTail.TheVariants.{Closed}
use Rattle.lk_types.specs.declared.ty.Ty.{Ty}
use Rattle.lk_types.specs.declared.ty.Ty.TheVariants as ty
use Rattle.lk_typing.proofs.Meaning.{seen, HasEffects}
use Rattle.lk_typing.specs.Law.{Become}
use Rattle.lk_typing.specs.Names.{Named}
use Rattle.lk_typing.specs.Types.{base, record_of, variant_of, unit, function_of, with_fields}
use Rattle.lk_typing.specs.Unknowns as unknown

-- ---- what types become

module _ (σ : Grounding) where
  fields_seen : (fields : Named Ty) → map (field_under σ) (map unknown.field fields) ≡ seen (under σ) fields
  fields_seen [] = refl
  fields_seen (f ∷ fs) = ap₂ (λ a as'. a ∷ as') (under_field σ (unknown.field f)) (fields_seen fs)

  pub row_seen : (fields : Named Ty) (tail : RowTail) → row_under σ (unknown.row fields tail) ≡ before_row (seen (under σ) fields) (row_tail σ tail)
  row_seen fields tail = row_as_fields σ (map unknown.field fields) tail ∙ ap (λ known_fields. before_row known_fields (row_tail σ tail)) (fields_seen fields)

  -- a record whose fields become these
  pub under_record : (fields : Named Ty) (known_fields : Named Ground) (tail : RowTail) → seen (under σ) fields ≡ seen (λ t. Some t) known_fields
      → under σ (unknown.record_of fields tail) ≡ option_map record_of (with_fields known_fields (row_tail σ tail))
  under_record fields known_fields tail is = under_fields σ _ ∙ ap (option_map record_of) (row_seen fields tail ∙ ap (λ fs. before_row fs (row_tail σ tail)) is)

  pub under_variant : (fields : Named Ty) (known_fields : Named Ground) (tail : RowTail) → seen (under σ) fields ≡ seen (λ t. Some t) known_fields
      → under σ (unknown.variant_of fields tail) ≡ option_map variant_of (with_fields known_fields (row_tail σ tail))
  under_variant fields known_fields tail is = under_tags σ _ ∙ ap (option_map variant_of) (row_seen fields tail ∙ ap (λ fs. before_row fs (row_tail σ tail)) is)

  pub under_unit : under σ unknown.unit ≡ Some unit
  under_unit = under_record [] [] Closed refl

  pub under_base : (k : BaseKind) → under σ (unknown.base k) ≡ Some (base k)
  under_base kind.Int = under_int σ
  under_base kind.Bool = under_bool σ
  under_base kind.Text = under_text σ

  pub list_is : (t : Ty) (a : Ground) → under σ t ≡ Some a → under σ (ty.List t) ≡ Some (known.List a)
  list_is t a is = under_list σ t ∙ ap (option_map known.List) is

  pub variable_is : (n : ℕ) (a : Ground) → σ.plain n ≡ a → under σ (ty.Var n) ≡ Some a
  variable_is n a is = under_variable σ n ∙ ap (λ t. Some t) is

  pub all_become : (types : List Ty) (ts : List Ground) → Become σ types ts → all_of (map (under σ) types) ≡ Some ts
  all_become types ts is = ap all_of is ∙ each_there ts
    where
      each_there : (ts : List Ground) → all_of (map (λ t. Some t) ts) ≡ Some ts
      each_there [] = refl
      each_there (t ∷ ts) = ap (option_map (λ more. t ∷ more)) (each_there ts)

  pub function_is : (types : List Ty) (ts : List Ground) (effects : Effects) (s : EffectSet) (t : Ty) (a : Ground)
      → Become σ types ts → HasEffects σ effects s → under σ t ≡ Some a → under σ (ty.Fun types effects t) ≡ Some (function_of ts s a)
  function_is types ts effects s t a params same answer =
      under_function σ types effects t
      ∙ ap₂ (λ ps e. grounding.function_of ps e (under σ t)) (all_become types ts params) same.same
      ∙ ap (λ b. grounding.function_of (Some ts) (Some s) b) answer

  -- ---- what comes of it backwards

  pub list_was : (t : Ty) (g : Ground) → under σ (ty.List t) ≡ Some g → (a : Ground) × (under σ t ≡ Some a) × (g ≡ known.List a)
  list_was t g is = by_value (under σ t) refl
    where
      by_value : (o : Option Ground) → under σ t ≡ o → (a : Ground) × (under σ t ≡ Some a) × (g ≡ known.List a)
      by_value None none = let wrong : None ≡ Some g = sym (under_list σ t ∙ ap (option_map known.List) none) ∙ is in cc
      by_value (Some a) some = (a, some, same_some (sym is ∙ (under_list σ t ∙ ap (option_map known.List) some)))

-- ---- equations

module _ (σ : Grounding) (left right : Ty) where
  pub meets : (a : Ground) → under σ left ≡ Some a → under σ right ≡ Some a → IsMet σ (unknown.same left right)
  meets a l r = (a, l, r)

  -- both sides become the same
  pub met : (a : Ground) → under σ left ≡ Some a → IsMet σ (unknown.same left right) → under σ right ≡ Some a
  met a is equal = equal.2 ∙ ap (λ t. Some t) (same_some (sym equal.1 ∙ is))

  pub met_back : (a : Ground) → under σ right ≡ Some a → IsMet σ (unknown.same left right) → under σ left ≡ Some a
  met_back a is equal = equal.1 ∙ ap (λ t. Some t) (same_some (sym equal.2 ∙ is))
