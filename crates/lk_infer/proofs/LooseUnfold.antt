-- What types become loosely, and which rows of effects stand in them, on each form of type.
use Rattle.std.proofs.Common.{◌≡◌, ℕ, List, [], ◌∷◌, ◌++◌, map, refl, ◌∙◌, ap, Option, Some}
use Rattle.std.specs.Option.{option_map}
use Rattle.std.specs.Prelude.{flat_map}
use Rattle.lk_types.specs.Grounding.{Grounding, Known, all_of, before_row, effect_tail, function_of, field_level, row_level, row_tail}
use Rattle.lk_types.specs.Rows.{Row, fields_of}
use Rattle.lk_types.specs.declared.ground.Ground.{Ground}
use Rattle.lk_types.specs.declared.ground.Ground.TheVariants as known
use Rattle.lk_types.specs.declared.ty.Effects.{Effects}
use Rattle.lk_types.specs.declared.ty.RowTail.{RowTail}
use Rattle.lk_types.specs.declared.ty.Ty.{Ty}
use Rattle.lk_types.specs.declared.ty.Ty.TheFolds.{the_lemmas}
use Rattle.lk_types.specs.declared.ty.Ty.TheVariants as ty
use Rattle.lk_types.specs.declared.ty.TyField.{TyField, fold-TyField}
use Rattle.lk_types.specs.declared.ty.TyRow.{TyRow, fold-TyRow, roll-TyRow}
use Rattle.lk_typing.specs.EffectRows.{field_rows, loose_level, loosely, row_rows, rows_of, ty_rows, union}

-- what a row becomes where an effect may stand before a tail that has it too
unfoldable pub row_loosely : Grounding → TyRow → Option Row
row_loosely σ = fold-TyRow (Option Ground) Known (Option Row) (loose_level σ) (field_level σ) (row_level σ)

-- a field with what its type becomes
abbrev pub field_loosely : Grounding → TyField → Known
field_loosely σ f = (f.label, loosely σ f.ty)

module _ (σ : Grounding) where
  pub loosely_int : loosely σ ty.Int ≡ Some known.Int
  unfolding loosely
  loosely_int = search the_lemmas

  pub loosely_bool : loosely σ ty.Bool ≡ Some known.Bool
  unfolding loosely
  loosely_bool = search the_lemmas

  pub loosely_text : loosely σ ty.Text ≡ Some known.Text
  unfolding loosely
  loosely_text = search the_lemmas

  pub loosely_list : (t : Ty) → loosely σ (ty.List t) ≡ option_map known.List (loosely σ t)
  unfolding loosely
  loosely_list t = search the_lemmas

  pub loosely_fields : (r : TyRow) → loosely σ (ty.Fields r) ≡ option_map (λ m. known.Fields (fields_of m)) (row_loosely σ r)
  unfolding loosely row_loosely
  loosely_fields r = search the_lemmas

  pub loosely_tags : (r : TyRow) → loosely σ (ty.Tags r) ≡ option_map (λ m. known.Tags (fields_of m)) (row_loosely σ r)
  unfolding loosely row_loosely
  loosely_tags r = search the_lemmas

  pub loosely_function : (params : List Ty) (es : Effects) (answer : Ty)
      → loosely σ (ty.Fun params es answer) ≡ function_of (all_of (map (loosely σ) params)) (Some (union es.labels (effect_tail σ es.tail))) (loosely σ answer)
  unfolding loosely
  loosely_function params es answer = search the_lemmas

  pub loosely_variable : (n : ℕ) → loosely σ (ty.Var n) ≡ Some (σ.plain n)
  unfolding loosely
  loosely_variable n = search the_lemmas

  unfoldable field_loose : TyField → Known
  field_loose = fold-TyField (Option Ground) Known (Option Row) (loose_level σ) (field_level σ) (row_level σ)

  field_loose-is : (f : TyField) → field_loose f ≡ field_loosely σ f
  unfolding loosely field_loose
  field_loose-is f = search the_lemmas

  each_loose : (fs : List TyField) → map field_loose fs ≡ map (field_loosely σ) fs
  each_loose [] = refl
  each_loose (f ∷ fs) = λ i. field_loose-is f i ∷ each_loose fs i

  by_fields : (fs : List TyField) (tail : RowTail) → row_loosely σ (roll-TyRow (record { fields = fs; tail = tail })) ≡ before_row (map field_loose fs) (row_tail σ tail)
  unfolding row_loosely field_loose
  by_fields fs tail = search the_lemmas

  pub loosely_row : (fs : List TyField) (tail : RowTail) → row_loosely σ (roll-TyRow (record { fields = fs; tail = tail })) ≡ before_row (map (field_loosely σ) fs) (row_tail σ tail)
  loosely_row fs tail = by_fields fs tail ∙ ap (λ fs. before_row fs (row_tail σ tail)) (each_loose fs)

-- ---- rows of effects

unfoldable pub rows_of_row : TyRow → List Effects
rows_of_row = fold-TyRow (List Effects) (List Effects) (List Effects) ty_rows field_rows row_rows

unfoldable rows_of_field : TyField → List Effects
rows_of_field = fold-TyField (List Effects) (List Effects) (List Effects) ty_rows field_rows row_rows

pub rows_int : rows_of ty.Int ≡ []
unfolding rows_of
rows_int = search the_lemmas

pub rows_bool : rows_of ty.Bool ≡ []
unfolding rows_of
rows_bool = search the_lemmas

pub rows_text : rows_of ty.Text ≡ []
unfolding rows_of
rows_text = search the_lemmas

pub rows_list : (t : Ty) → rows_of (ty.List t) ≡ rows_of t
unfolding rows_of
rows_list t = search the_lemmas

pub rows_fields : (r : TyRow) → rows_of (ty.Fields r) ≡ rows_of_row r
unfolding rows_of rows_of_row
rows_fields r = search the_lemmas

pub rows_tags : (r : TyRow) → rows_of (ty.Tags r) ≡ rows_of_row r
unfolding rows_of rows_of_row
rows_tags r = search the_lemmas

by_params : (params : List Ty) (es : Effects) (answer : Ty) → rows_of (ty.Fun params es answer) ≡ flat_map (λ rows. rows) (map rows_of params) ++ (es ∷ rows_of answer)
unfolding rows_of
by_params params es answer = search the_lemmas

flattened : {A B : Type 0} (f : A → List B) (xs : List A) → flat_map (λ ys. ys) (map f xs) ≡ flat_map f xs
flattened f [] = refl
flattened f (x ∷ xs) = ap (λ z. f x ++ z) (flattened f xs)

pub rows_function : (params : List Ty) (es : Effects) (answer : Ty) → rows_of (ty.Fun params es answer) ≡ flat_map rows_of params ++ (es ∷ rows_of answer)
rows_function params es answer = by_params params es answer ∙ ap (λ z. z ++ (es ∷ rows_of answer)) (flattened rows_of params)

rows_field : (f : TyField) → rows_of_field f ≡ rows_of f.ty
unfolding rows_of rows_of_field
rows_field f = search the_lemmas

rows_each : (fs : List TyField) → flat_map rows_of_field fs ≡ flat_map (λ f. rows_of f.ty) fs
rows_each [] = refl
rows_each (f ∷ fs) = λ i. rows_field f i ++ rows_each fs i

by_rows : (fs : List TyField) (tail : RowTail) → rows_of_row (roll-TyRow (record { fields = fs; tail = tail })) ≡ flat_map (λ rows. rows) (map rows_of_field fs)
unfolding rows_of_row rows_of_field
by_rows fs tail = search the_lemmas

pub rows_row : (fs : List TyField) (tail : RowTail) → rows_of_row (roll-TyRow (record { fields = fs; tail = tail })) ≡ flat_map (λ f. rows_of f.ty) fs
rows_row fs tail = by_rows fs tail ∙ flattened rows_of_field fs ∙ rows_each fs
