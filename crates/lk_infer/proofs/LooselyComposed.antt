-- What a type becomes first by an opening and then loosely is what it becomes loosely under the grounding that is both.
use Rattle.std.proofs.Common.{◌≡◌, ℕ, Bool, true, false, ◌||◌, List, [], ◌∷◌, map, refl, sym, ◌∙◌, ap, Some}
use Rattle.std.specs.List.{list_any}
use Rattle.std.specs.Option.{option_map, unwrap_or}
use Rattle.lk_types.proofs.Parts.{same_some, mapped, all_some, function_some, with_one}
use Rattle.lk_types.specs.Each.{Each}
use Rattle.lk_types.specs.Grounding.{Grounding, all_of, before_effects, before_row, effect_tail, function_of, row_tail}
use Rattle.lk_types.specs.Rows.{EffectSet, Row, effects_of, fields_of, no_fields, same_effect, with_field}
use Rattle.lk_types.specs.declared.ground.Ground.{Ground}
use Rattle.lk_types.specs.declared.ground.Ground.TheVariants as known
use Rattle.lk_types.specs.declared.ty.Effect.{Effect}
use Rattle.lk_types.specs.declared.ty.Effects.{Effects}
use Rattle.lk_types.specs.declared.ty.RowTail.{RowTail}
use Rattle.lk_types.specs.declared.ty.RowTail.TheVariants.{Closed, Var}
use Rattle.lk_types.specs.declared.ty.Ty.{Ty}
use Rattle.lk_types.specs.declared.ty.Ty.TheVariants as ty
use Rattle.lk_types.specs.declared.ty.TyField.{TyField}
use Rattle.lk_types.specs.declared.ty.TyRow.{TyRow, roll-TyRow}
use Rattle.lk_typing.proofs.Even.Loose.{is_union}
use Rattle.lk_typing.specs.EffectRows.{loosely, union}
use Rattle.lk_arena.specs.Openings.{OpenEffects, OpenRow, Opening, before_open, effects_opened, effects_tail_opened, effects_type, opened, row_opened, row_type, tail_opened}
use Rattle.lk_typing.proofs.EffectRows.{in_list}
use Rattle.lk_unify.proofs.OpenComposed.{open_some, open_one}
use Rattle.lk_unify.proofs.OpenUnfold.{opened_bool, opened_fields, opened_function, opened_int, opened_list, opened_rolled, opened_tags, opened_text, opened_variable}
use Rattle.lk_types.proofs.TypeInduction.{Hereditary, every_type}
use Rattle.lk_infer.proofs.LooseUnfold.{field_loosely, loosely_bool, loosely_fields, loosely_function, loosely_int}
use Rattle.lk_infer.proofs.LooseUnfold.{loosely_list, loosely_row, loosely_tags, loosely_text, loosely_variable, row_loosely}
use Rattle.lk_infer.proofs.LooselyRows.{insert_loosely, only_tail_loosely}

-- what stands for the variables of an opening, loosely: where something means nothing it says nothing
abbrev pub plain_after : Opening → Grounding → ℕ → Ground
plain_after ρ τ n = unwrap_or (loosely τ (ρ.plain n)) known.Int

abbrev pub row_after : Opening → Grounding → ℕ → Row
row_after ρ τ n = unwrap_or (row_loosely τ (row_type (ρ.rows n))) no_fields

abbrev pub effects_after : Opening → Grounding → ℕ → EffectSet
effects_after ρ τ n = union (effects_type (ρ.effects n)).labels (effect_tail τ (ρ.effects n).tail)

abbrev pub loose_after : Opening → Grounding → Grounding
loose_after ρ τ = record { plain = plain_after ρ τ; rows = row_after ρ τ; effects = effects_after ρ τ }

module _ (ρ : Opening) (τ : Grounding) where
  abbrev both : Grounding
  both = loose_after ρ τ

  -- ---- effects

  in_three : (a b c : Bool) → ((a || b) || c) ≡ (a || (b || c))
  in_three true b c = refl
  in_three false b c = refl

  -- the tail of a row of effects, and what stands behind it
  tail_at : (tail : RowTail) (x : Effect) → ((effects_tail_opened ρ tail).labels x || effect_tail τ (effects_tail_opened ρ tail).tail x) ≡ effect_tail both tail x
  tail_at Closed x = refl
  tail_at (Var n) x = ap (λ b. b || effect_tail τ (ρ.effects n).tail x) (sym (in_list (ρ.effects n).labels x))

  effects_composed : (es : Effects) (s : OpenEffects) → effects_opened ρ es ≡ Some s → union (effects_type s).labels (effect_tail τ s.tail) ≡ union es.labels (effect_tail both es.tail)
  effects_composed es s e =
      let below = effects_tail_opened ρ es.tail in
      let x = mapped (λ (labels : EffectSet). record { labels = labels; tail = below.tail }) (before_effects es.labels below.labels) s e in
      let at : (y : Effect) → union (effects_of x.0) (effect_tail τ below.tail) y ≡ union es.labels (effect_tail both es.tail) y =
      λ y. ap (λ b. b || effect_tail τ below.tail y) (in_list x.0 y ∙ ap (λ (s : EffectSet). s y) (is_union es.labels below.labels x.0 x.1))
      ∙ in_three (list_any (same_effect y) es.labels) (below.labels y) (effect_tail τ below.tail y)
      ∙ ap (λ b. list_any (same_effect y) es.labels || b) (tail_at es.tail y) in
      ap (λ (s : OpenEffects). union (effects_type s).labels (effect_tail τ s.tail)) x.2 ∙ (λ i y. at y i)

  -- ---- types and rows

  abbrev Composed : Ty → Type 0
  Composed t = (u : Ty) (g : Ground) → opened ρ t ≡ Some u → loosely τ u ≡ Some g → loosely both t ≡ Some g

  abbrev RowComposed : TyRow → Type 0
  RowComposed r = (m : OpenRow) (n : Row) → row_opened ρ r ≡ Some m → row_loosely τ (row_type m) ≡ Some n → row_loosely both r ≡ Some n

  types_composed : (ts : List Ty) → Each Composed ts → (us : List Ty) (gs : List Ground) → all_of (map (opened ρ) ts) ≡ Some us → all_of (map (loosely τ) us) ≡ Some gs
      → all_of (map (loosely both) ts) ≡ Some gs
  types_composed [] each us gs a b = ap (λ us. all_of (map (loosely τ) us)) (same_some a) ∙ b
  types_composed (t ∷ ts) each us gs a b =
      let x = all_some (opened ρ t) (map (opened ρ) ts) us a in
      let y = all_some (loosely τ x.0) (map (loosely τ) x.1) gs (ap (λ us. all_of (map (loosely τ) us)) (sym x.4) ∙ b) in
      ap (λ o. all_of (o ∷ map (loosely both) ts)) (each.0 x.0 y.0 x.2 y.2)
      ∙ ap (option_map (λ more. y.0 ∷ more)) (types_composed ts each.1 x.1 y.1 x.3 y.3)
      ∙ ap Some (sym y.4)

  tail_composed : (tail : RowTail) (n : Row) → row_loosely τ (row_type (tail_opened ρ tail)) ≡ Some n → row_tail both tail ≡ n
  tail_composed Closed n e = same_some (sym (only_tail_loosely τ Closed) ∙ e)
  tail_composed (Var k) n e = ap (λ o. unwrap_or o no_fields) e

  fields_composed : (tail : RowTail) (fs : List TyField) → Each (λ f. Composed f.ty) fs → (m : OpenRow) (n : Row)
      → before_open (map (λ f. (f.label, opened ρ f.ty)) fs) (tail_opened ρ tail) ≡ Some m → row_loosely τ (row_type m) ≡ Some n
      → before_row (map (field_loosely both) fs) (row_tail both tail) ≡ Some n
  fields_composed tail [] each m n a b = ap Some (tail_composed tail n (ap (λ m. row_loosely τ (row_type m)) (same_some a) ∙ b))
  fields_composed tail (f ∷ fs) each m n a b =
      let x = open_one f.label (opened ρ f.ty) (before_open (map (λ f. (f.label, opened ρ f.ty)) fs) (tail_opened ρ tail)) m a in
      let is = sym (insert_loosely τ x.1 f.label x.0 x.4) ∙ ap (λ m. row_loosely τ (row_type m)) (sym x.5) ∙ b in
      let y = with_one f.label (loosely τ x.0) (row_loosely τ (row_type x.1)) n is in
      (λ i. with_field f.label (each.0 x.0 y.0 x.2 y.2 i) (fields_composed tail fs each.1 x.1 y.1 x.3 y.3 i))
      ∙ (λ i. with_field f.label (sym y.2 i) (sym y.3 i)) ∙ is

  at_row : (fs : List TyField) (tail : RowTail) → Each (λ f. Composed f.ty) fs → RowComposed (roll-TyRow (record { fields = fs; tail = tail }))
  at_row fs tail each m n a b = loosely_row both fs tail ∙ fields_composed tail fs each m n (sym (opened_rolled ρ fs tail) ∙ a) b

  -- a type without parts
  alone : (t : Ty) (g : Ground) → opened ρ t ≡ Some t → loosely τ t ≡ Some g → loosely both t ≡ Some g → Composed t
  alone t g open_is is goal u h a b = goal ∙ sym is ∙ ap (loosely τ) (same_some (sym open_is ∙ a)) ∙ b

  at_list : (t : Ty) → Composed t → Composed (ty.List t)
  at_list t composed u g a b =
      let x = mapped ty.List (opened ρ t) u (sym (opened_list ρ t) ∙ a) in
      let y = mapped known.List (loosely τ x.0) g (sym (loosely_list τ x.0) ∙ ap (loosely τ) (sym x.2) ∙ b) in
      loosely_list both t ∙ ap (option_map known.List) (composed x.0 y.0 x.1 y.1) ∙ ap Some (sym y.2)

  at_fields : (r : TyRow) → RowComposed r → Composed (ty.Fields r)
  at_fields r composed u g a b =
      let x = mapped (λ (m : OpenRow). ty.Fields (row_type m)) (row_opened ρ r) u (sym (opened_fields ρ r) ∙ a) in
      let y = mapped (λ (n : Row). known.Fields (fields_of n)) (row_loosely τ (row_type x.0)) g (sym (loosely_fields τ (row_type x.0)) ∙ ap (loosely τ) (sym x.2) ∙ b) in
      loosely_fields both r ∙ ap (option_map (λ n. known.Fields (fields_of n))) (composed x.0 y.0 x.1 y.1) ∙ ap Some (sym y.2)

  at_tags : (r : TyRow) → RowComposed r → Composed (ty.Tags r)
  at_tags r composed u g a b =
      let x = mapped (λ (m : OpenRow). ty.Tags (row_type m)) (row_opened ρ r) u (sym (opened_tags ρ r) ∙ a) in
      let y = mapped (λ (n : Row). known.Tags (fields_of n)) (row_loosely τ (row_type x.0)) g (sym (loosely_tags τ (row_type x.0)) ∙ ap (loosely τ) (sym x.2) ∙ b) in
      loosely_tags both r ∙ ap (option_map (λ n. known.Tags (fields_of n))) (composed x.0 y.0 x.1 y.1) ∙ ap Some (sym y.2)

  at_function : (params : List Ty) (es : Effects) (answer : Ty) → Each Composed params → Composed answer → Composed (ty.Fun params es answer)
  at_function params es answer each last u g a b =
      let x = open_some (all_of (map (opened ρ) params)) (effects_opened ρ es) (opened ρ answer) u (sym (opened_function ρ params es answer) ∙ a) in
      let y = function_some (all_of (map (loosely τ) x.0)) (Some (union (effects_type x.1).labels (effect_tail τ x.1.tail))) (loosely τ x.2) g
      (sym (loosely_function τ x.0 (effects_type x.1) x.2) ∙ ap (loosely τ) (sym x.6) ∙ b) in
      loosely_function both params es answer
      ∙ (λ i. function_of (types_composed params each x.0 y.0 x.3 y.3 i) (Some (sym (effects_composed es x.1 x.4) i)) (last x.2 y.2 x.5 y.5 i))
      ∙ ap (λ o. function_of (Some y.0) o (Some y.2)) y.4
      ∙ ap Some (sym y.6)

  at_variable : (n : ℕ) → Composed (ty.Var n)
  at_variable n u g a b =
      loosely_variable both n
      ∙ ap (λ o. Some (unwrap_or o known.Int)) (ap (loosely τ) (same_some (sym (opened_variable ρ n) ∙ a)) ∙ b)

  steps : Hereditary Composed RowComposed
  steps = record {
    at_int = alone ty.Int known.Int (opened_int ρ) (loosely_int τ) (loosely_int both);
    at_bool = alone ty.Bool known.Bool (opened_bool ρ) (loosely_bool τ) (loosely_bool both);
    at_text = alone ty.Text known.Text (opened_text ρ) (loosely_text τ) (loosely_text both);
    at_list = at_list;
    at_fields = at_fields;
    at_tags = at_tags;
    at_function = at_function;
    at_variable = at_variable;
    at_row = at_row;
  }

pub loosely_composed : (ρ : Opening) (τ : Grounding) (t u : Ty) (g : Ground) → opened ρ t ≡ Some u → loosely τ u ≡ Some g → loosely (loose_after ρ τ) t ≡ Some g
loosely_composed ρ τ t = every_type (Composed ρ τ) (RowComposed ρ τ) (steps ρ τ) t
