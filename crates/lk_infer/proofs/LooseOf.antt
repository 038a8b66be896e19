-- What a type becomes it becomes loosely too.
use Rattle.std.proofs.Common.{◌≡◌, List, [], ◌∷◌, map, sym, ◌∙◌, ap, Some}
use Rattle.std.specs.Option.{option_map}
use Rattle.lk_types.proofs.Parts.{mapped, all_some, function_some, row_rolled, with_one}
use Rattle.lk_types.proofs.Unfold.{under_bool, under_fields, under_function, under_int, under_list, under_tags, under_text, under_variable}
use Rattle.lk_types.specs.Each.{Each}
use Rattle.lk_types.specs.Grounding.{Grounding, all_of, before_row, effect_tail, effects_under, function_of, row_tail, row_under, under}
use Rattle.lk_types.specs.Rows.{Row, fields_of, with_field}
use Rattle.lk_types.specs.declared.ground.Ground.{Ground}
use Rattle.lk_types.specs.declared.ground.Ground.TheVariants as known
use Rattle.lk_types.specs.declared.ty.Effects.{Effects}
use Rattle.lk_types.specs.declared.ty.RowTail.{RowTail}
use Rattle.lk_types.specs.declared.ty.Ty.{Ty}
use Rattle.lk_types.specs.declared.ty.Ty.TheVariants as ty
use Rattle.lk_types.specs.declared.ty.TyField.{TyField}
use Rattle.lk_types.specs.declared.ty.TyRow.{TyRow, roll-TyRow}
use Rattle.lk_typing.proofs.Even.Loose.{is_union}
use Rattle.lk_typing.specs.EffectRows.{loosely}
use Rattle.lk_types.proofs.TypeInduction.{Hereditary, every_type}
use Rattle.lk_infer.proofs.LooseUnfold.{field_loosely, loosely_bool, loosely_fields, loosely_function, loosely_int}
use Rattle.lk_infer.proofs.LooseUnfold.{loosely_list, loosely_row, loosely_tags, loosely_text, loosely_variable, row_loosely}

module _ (τ : Grounding) where
  abbrev Keeps : Ty → Type 0
  Keeps t = (g : Ground) → under τ t ≡ Some g → loosely τ t ≡ Some g

  abbrev RowKeeps : TyRow → Type 0
  RowKeeps r = (m : Row) → row_under τ r ≡ Some m → row_loosely τ r ≡ Some m

  types_keep : (ts : List Ty) → Each Keeps ts → (gs : List Ground) → all_of (map (under τ) ts) ≡ Some gs → all_of (map (loosely τ) ts) ≡ Some gs
  types_keep [] each gs e = e
  types_keep (t ∷ ts) each gs e =
      let x = all_some (under τ t) (map (under τ) ts) gs e in
      ap (λ o. all_of (o ∷ map (loosely τ) ts)) (each.0 x.0 x.2) ∙ ap (option_map (λ more. x.0 ∷ more)) (types_keep ts each.1 x.1 x.3) ∙ ap Some (sym x.4)

  fields_keep : (row : Row) (fs : List TyField) → Each (λ f. Keeps f.ty) fs → (m : Row)
      → before_row (map (λ f. (f.label, under τ f.ty)) fs) row ≡ Some m → before_row (map (field_loosely τ) fs) row ≡ Some m
  fields_keep row [] each m e = e
  fields_keep row (f ∷ fs) each m e =
      let x = with_one f.label (under τ f.ty) (before_row (map (λ f. (f.label, under τ f.ty)) fs) row) m e in
      (λ i. with_field f.label (each.0 x.0 x.2 i) (fields_keep row fs each.1 x.1 x.3 i)) ∙ (λ i. with_field f.label (sym x.2 i) (sym x.3 i)) ∙ e

  at_row : (fs : List TyField) (tail : RowTail) → Each (λ f. Keeps f.ty) fs → RowKeeps (roll-TyRow (record { fields = fs; tail = tail }))
  at_row fs tail each m e = loosely_row τ fs tail ∙ fields_keep (row_tail τ tail) fs each m (sym (row_rolled τ fs tail) ∙ e)

  at_list : (t : Ty) → Keeps t → Keeps (ty.List t)
  at_list t keeps g e =
      let x = mapped known.List (under τ t) g (sym (under_list τ t) ∙ e) in
      loosely_list τ t ∙ ap (option_map known.List) (keeps x.0 x.1) ∙ ap Some (sym x.2)

  at_fields : (r : TyRow) → RowKeeps r → Keeps (ty.Fields r)
  at_fields r keeps g e =
      let x = mapped (λ (m : Row). known.Fields (fields_of m)) (row_under τ r) g (sym (under_fields τ r) ∙ e) in
      loosely_fields τ r ∙ ap (option_map (λ m. known.Fields (fields_of m))) (keeps x.0 x.1) ∙ ap Some (sym x.2)

  at_tags : (r : TyRow) → RowKeeps r → Keeps (ty.Tags r)
  at_tags r keeps g e =
      let x = mapped (λ (m : Row). known.Tags (fields_of m)) (row_under τ r) g (sym (under_tags τ r) ∙ e) in
      loosely_tags τ r ∙ ap (option_map (λ m. known.Tags (fields_of m))) (keeps x.0 x.1) ∙ ap Some (sym x.2)

  at_function : (params : List Ty) (es : Effects) (answer : Ty) → Each Keeps params → Keeps answer → Keeps (ty.Fun params es answer)
  at_function params es answer each last g e =
      let x = function_some (all_of (map (under τ) params)) (effects_under τ es) (under τ answer) g (sym (under_function τ params es answer) ∙ e) in
      let same = is_union es.labels (effect_tail τ es.tail) x.1 x.4 in
      loosely_function τ params es answer
      ∙ (λ i. function_of (types_keep params each x.0 x.3 i) (Some (sym same i)) (last x.2 x.5 i))
      ∙ ap Some (sym x.6)

  steps : Hereditary Keeps RowKeeps
  steps = record {
    at_int = λ g e. loosely_int τ ∙ sym (under_int τ) ∙ e;
    at_bool = λ g e. loosely_bool τ ∙ sym (under_bool τ) ∙ e;
    at_text = λ g e. loosely_text τ ∙ sym (under_text τ) ∙ e;
    at_list = at_list;
    at_fields = at_fields;
    at_tags = at_tags;
    at_function = at_function;
    at_variable = λ n g e. loosely_variable τ n ∙ sym (under_variable τ n) ∙ e;
    at_row = at_row;
  }

pub loose_of : (τ : Grounding) (t : Ty) (g : Ground) → under τ t ≡ Some g → loosely τ t ≡ Some g
loose_of τ t = every_type (Keeps τ) (RowKeeps τ) (steps τ) t
