-- The definitions by folds, on each form of type: what a type becomes, a ground type as a type, and what types count.
use Rattle.std.proofs.Common.{◌≡◌, ℕ, ◌+◌, List, [], ◌∷◌, map, refl, ◌∙◌, ap, ap₂, Option, Some}
use Rattle.std.specs.Option.{option_map}
use Rattle.lk_types.specs.Grounding.{all_of}
use Rattle.lk_types.specs.declared.ground.Ground.{Ground}
use Rattle.lk_types.specs.declared.ground.Ground.TheFolds as ground_folds
use Rattle.lk_types.specs.declared.ground.Ground.TheVariants as known
use Rattle.lk_types.specs.declared.ground.GroundField.{GroundField, fold-GroundField}
use Rattle.lk_types.specs.declared.ty.Effect.{Effect}
use Rattle.lk_types.specs.declared.ty.Effects.{Effects}
use Rattle.lk_types.specs.declared.ty.RowTail.{RowTail}
use Rattle.lk_types.specs.declared.ty.RowTail.TheVariants.{Closed}
use Rattle.lk_types.specs.declared.ty.Ty.{Ty}
use Rattle.lk_types.specs.declared.ty.Ty.TheFolds.{the_lemmas}
use Rattle.lk_types.specs.declared.ty.Ty.TheVariants as ty
use Rattle.lk_types.specs.declared.ty.TyField.{TyField, fold-TyField}
use Rattle.lk_types.specs.declared.ty.TyRow.{TyRow, out-TyRow, roll-TyRow}
use Rattle.lk_arena.specs.Counting.{sum_of}
use Rattle.lk_unify.specs.Nodes.{end_count, effects_count, count_level, field_count_level, row_count_level, count, row_count}
use Rattle.lk_arena.specs.Openings.{Opening, OpenRow, row_type, opened, row_opened, Opened, opened_level, opened_field_level, opened_row_level, before_open, tail_opened, effects_opened, open_function, ground_level, ground_field_level, as_type}

-- ---- what a type becomes

module _ (ρ : Opening) where
  pub opened_int : opened ρ ty.Int ≡ Some ty.Int
  unfolding opened
  opened_int = search the_lemmas

  pub opened_bool : opened ρ ty.Bool ≡ Some ty.Bool
  unfolding opened
  opened_bool = search the_lemmas

  pub opened_text : opened ρ ty.Text ≡ Some ty.Text
  unfolding opened
  opened_text = search the_lemmas

  pub opened_list : (t : Ty) → opened ρ (ty.List t) ≡ option_map ty.List (opened ρ t)
  unfolding opened
  opened_list t = search the_lemmas

  pub opened_fields : (r : TyRow) → opened ρ (ty.Fields r) ≡ option_map (λ m. ty.Fields (row_type m)) (row_opened ρ r)
  unfolding opened row_opened
  opened_fields r = search the_lemmas

  pub opened_tags : (r : TyRow) → opened ρ (ty.Tags r) ≡ option_map (λ m. ty.Tags (row_type m)) (row_opened ρ r)
  unfolding opened row_opened
  opened_tags r = search the_lemmas

  pub opened_function : (params : List Ty) (es : Effects) (answer : Ty)
      → opened ρ (ty.Fun params es answer) ≡ open_function (all_of (map (opened ρ) params)) (effects_opened ρ es) (opened ρ answer)
  unfolding opened
  opened_function params es answer = search the_lemmas

  pub opened_variable : (n : ℕ) → opened ρ (ty.Var n) ≡ Some (ρ.plain n)
  unfolding opened
  opened_variable n = search the_lemmas

  unfoldable field_opened : TyField → Opened
  field_opened = fold-TyField (Option Ty) Opened (Option OpenRow) (opened_level ρ) (opened_field_level ρ) (opened_row_level ρ)

  field_opened-is : (f : TyField) → field_opened f ≡ (f.label, opened ρ f.ty)
  unfolding opened field_opened
  field_opened-is f = search the_lemmas

  by_fields : (r : TyRow) → row_opened ρ r ≡ before_open (map field_opened (out-TyRow r).fields) (tail_opened ρ (out-TyRow r).tail)
  unfolding row_opened field_opened
  by_fields r = search the_lemmas

  opened_each : (fs : List TyField) → map field_opened fs ≡ map (λ f. (f.label, opened ρ f.ty)) fs
  opened_each [] = refl
  opened_each (f ∷ fs) = ap₂ (λ x xs. x ∷ xs) (field_opened-is f) (opened_each fs)

  pub opened_row : (r : TyRow) → row_opened ρ r ≡ before_open (map (λ f. (f.label, opened ρ f.ty)) (out-TyRow r).fields) (tail_opened ρ (out-TyRow r).tail)
  opened_row r = by_fields r ∙ ap (λ fs. before_open fs (tail_opened ρ (out-TyRow r).tail)) (opened_each (out-TyRow r).fields)

  rolled : (fs : List TyField) (tail : RowTail) → row_opened ρ (roll-TyRow (record { fields = fs; tail = tail })) ≡ before_open (map field_opened fs) (tail_opened ρ tail)
  unfolding row_opened field_opened
  rolled fs tail = search the_lemmas

  pub opened_rolled : (fs : List TyField) (tail : RowTail)
      → row_opened ρ (roll-TyRow (record { fields = fs; tail = tail })) ≡ before_open (map (λ f. (f.label, opened ρ f.ty)) fs) (tail_opened ρ tail)
  opened_rolled fs tail = rolled fs tail ∙ ap (λ fs. before_open fs (tail_opened ρ tail)) (opened_each fs)

-- ---- ground types as types

-- a field of a ground type as one of a type
abbrev pub as_field : GroundField → TyField
as_field f = record { label = f.label; ty = as_type f.ty }

pub as_int : as_type known.Int ≡ ty.Int
unfolding as_type
as_int = search ground_folds.the_lemmas

pub as_bool : as_type known.Bool ≡ ty.Bool
unfolding as_type
as_bool = search ground_folds.the_lemmas

pub as_text : as_type known.Text ≡ ty.Text
unfolding as_type
as_text = search ground_folds.the_lemmas

pub as_list : (t : Ground) → as_type (known.List t) ≡ ty.List (as_type t)
unfolding as_type
as_list t = search ground_folds.the_lemmas

unfoldable field_as : GroundField → TyField
field_as = fold-GroundField Ty TyField ground_level ground_field_level

field_as-is : (f : GroundField) → field_as f ≡ as_field f
unfolding as_type field_as
field_as-is f = search ground_folds.the_lemmas

each_as : (fs : List GroundField) → map field_as fs ≡ map as_field fs
each_as [] = refl
each_as (f ∷ fs) = ap₂ (λ x xs. x ∷ xs) (field_as-is f) (each_as fs)

fields_as : (fs : List GroundField) → as_type (known.Fields fs) ≡ ty.Fields (roll-TyRow (record { fields = map field_as fs; tail = Closed }))
unfolding as_type field_as
fields_as fs = search ground_folds.the_lemmas

tags_as : (fs : List GroundField) → as_type (known.Tags fs) ≡ ty.Tags (roll-TyRow (record { fields = map field_as fs; tail = Closed }))
unfolding as_type field_as
tags_as fs = search ground_folds.the_lemmas

pub as_fields : (fs : List GroundField) → as_type (known.Fields fs) ≡ ty.Fields (roll-TyRow (record { fields = map as_field fs; tail = Closed }))
as_fields fs = fields_as fs ∙ ap (λ fs. ty.Fields (roll-TyRow (record { fields = fs; tail = Closed }))) (each_as fs)

pub as_tags : (fs : List GroundField) → as_type (known.Tags fs) ≡ ty.Tags (roll-TyRow (record { fields = map as_field fs; tail = Closed }))
as_tags fs = tags_as fs ∙ ap (λ fs. ty.Tags (roll-TyRow (record { fields = fs; tail = Closed }))) (each_as fs)

pub as_function : (params : List Ground) (es : List Effect) (answer : Ground)
    → as_type (known.Fun params es answer) ≡ ty.Fun (map as_type params) (record { labels = es; tail = Closed }) (as_type answer)
unfolding as_type
as_function params es answer = search ground_folds.the_lemmas

-- ---- what types count

module _ (closed : ℕ) where
  pub count_int : count closed ty.Int ≡ 1
  unfolding count
  count_int = search the_lemmas

  pub count_bool : count closed ty.Bool ≡ 1
  unfolding count
  count_bool = search the_lemmas

  pub count_text : count closed ty.Text ≡ 1
  unfolding count
  count_text = search the_lemmas

  pub count_list : (t : Ty) → count closed (ty.List t) ≡ 1 + count closed t
  unfolding count
  count_list t = search the_lemmas

  pub count_fields : (r : TyRow) → count closed (ty.Fields r) ≡ 1 + row_count closed r
  unfolding count row_count
  count_fields r = search the_lemmas

  pub count_tags : (r : TyRow) → count closed (ty.Tags r) ≡ 1 + row_count closed r
  unfolding count row_count
  count_tags r = search the_lemmas

  pub count_function : (params : List Ty) (es : Effects) (answer : Ty)
      → count closed (ty.Fun params es answer) ≡ 1 + (sum_of (map (count closed) params) + (effects_count closed es + count closed answer))
  unfolding count
  count_function params es answer = search the_lemmas

  pub count_variable : (n : ℕ) → count closed (ty.Var n) ≡ 1
  unfolding count
  count_variable n = search the_lemmas

  unfoldable field_count : TyField → ℕ
  field_count = fold-TyField ℕ ℕ ℕ (count_level closed) (field_count_level closed) (row_count_level closed)

  field_count-is : (f : TyField) → field_count f ≡ 1 + count closed f.ty
  unfolding count field_count
  field_count-is f = search the_lemmas

  counted_each : (fs : List TyField) → map field_count fs ≡ map (λ f. 1 + count closed f.ty) fs
  counted_each [] = refl
  counted_each (f ∷ fs) = ap₂ (λ x xs. x ∷ xs) (field_count-is f) (counted_each fs)

  counts_rolled : (fs : List TyField) (tail : RowTail) → row_count closed (roll-TyRow (record { fields = fs; tail = tail })) ≡ sum_of (map field_count fs) + end_count closed tail
  unfolding row_count field_count
  counts_rolled fs tail = search the_lemmas

  pub count_rolled : (fs : List TyField) (tail : RowTail)
      → row_count closed (roll-TyRow (record { fields = fs; tail = tail })) ≡ sum_of (map (λ f. 1 + count closed f.ty) fs) + end_count closed tail
  count_rolled fs tail = counts_rolled fs tail ∙ ap (λ ns. sum_of ns + end_count closed tail) (counted_each fs)
