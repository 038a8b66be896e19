-- What a type becomes when ground types, rows and sets of effects are put for its variables.
use Rattle.std.specs.Prelude.{ℕ, List, [], ◌∷◌, Option, Some, None}
use Rattle.std.specs.Option.{option_map}
use Rattle.lk_types.specs.Rows.{Label, Row, EffectSet, no_fields, with_field, fields_of, no_effects, with_effect, effects_of}
use Rattle.lk_types.specs.declared.ground.Ground.{Ground}
use Rattle.lk_types.specs.declared.ground.Ground.TheVariants as known
use Rattle.lk_types.specs.declared.ty.Effect.{Effect}
use Rattle.lk_types.specs.declared.ty.Effects.{Effects}
use Rattle.lk_types.specs.declared.ty.RowTail.{RowTail}
use Rattle.lk_types.specs.declared.ty.RowTail.TheVariants.{Closed, Var}
use Rattle.lk_types.specs.declared.ty.Ty.{Ty, fold-Ty}
use Rattle.lk_types.specs.declared.ty.Ty.TheOpen.{Ty-F, TyField-F, TyRow-F}
use Rattle.lk_types.specs.declared.ty.TyField.{TyField, fold-TyField}
use Rattle.lk_types.specs.declared.ty.TyRow.{TyRow, fold-TyRow}

-- what stands for each variable, by its kind
pub record Grounding : Type 0 where
  pub plain : ℕ → Ground
  pub rows : ℕ → Row
  pub effects : ℕ → EffectSet

-- all of them, where each is there
abbrev pub all_of : {A : Type 0} → List (Option A) → Option (List A)
all_of [] = Some []
all_of (None ∷ rest) = None
all_of (Some a ∷ rest) = option_map (λ more. a ∷ more) (all_of rest)

-- a field with what its type becomes, if anything
abbrev pub Known : Type 0
Known = Label × Option Ground

-- the row with these fields before it, where no label is there twice
abbrev pub before_row : List Known → Row → Option Row
before_row [] row = Some row
before_row (f ∷ fs) row = with_field f.0 f.1 (before_row fs row)

-- the set with these effects before it, where none is there twice
abbrev pub before_effects : List Effect → EffectSet → Option EffectSet
before_effects [] s = Some s
before_effects (e ∷ es) s = with_effect e (before_effects es s)

abbrev pub function_of : Option (List Ground) → Option EffectSet → Option Ground → Option Ground
function_of (Some params) (Some s) (Some answer) = Some (known.Fun params (effects_of s) answer)
function_of _ _ _ = None

module _ (σ : Grounding) where
  abbrev pub row_tail : RowTail → Row
  row_tail Closed = no_fields
  row_tail (Var n) = σ.rows n

  abbrev pub effect_tail : RowTail → EffectSet
  effect_tail Closed = no_effects
  effect_tail (Var n) = σ.effects n

  -- the set of effects, where none is there twice
  abbrev pub effects_under : Effects → Option EffectSet
  effects_under es = before_effects es.labels (effect_tail es.tail)

  -- one level of a type, what stands inside being known already
  abbrev pub ty_level : Ty-F (Option Ground) Known (Option Row) → Option Ground
  ty_level Ty-F.Int = Some known.Int
  ty_level Ty-F.Bool = Some known.Bool
  ty_level Ty-F.Text = Some known.Text
  ty_level (Ty-F.List t) = option_map known.List t
  ty_level (Ty-F.Fields row) = option_map (λ m. known.Fields (fields_of m)) row
  ty_level (Ty-F.Tags row) = option_map (λ m. known.Tags (fields_of m)) row
  ty_level (Ty-F.Fun params es answer) = function_of (all_of params) (effects_under es) answer
  ty_level (Ty-F.Var n) = Some (σ.plain n)

  abbrev pub row_level : TyRow-F (Option Ground) Known (Option Row) → Option Row
  row_level row = before_row row.fields (row_tail row.tail)

  abbrev pub field_level : TyField-F (Option Ground) Known (Option Row) → Known
  field_level f = (f.label, f.ty)

-- the ground type that it becomes, where no row in it gets a label twice
unfoldable pub under : Grounding → Ty → Option Ground
under σ = fold-Ty (Option Ground) Known (Option Row) (ty_level σ) (field_level σ) (row_level σ)

unfoldable pub row_under : Grounding → TyRow → Option Row
row_under σ = fold-TyRow (Option Ground) Known (Option Row) (ty_level σ) (field_level σ) (row_level σ)

unfoldable pub field_under : Grounding → TyField → Known
field_under σ = fold-TyField (Option Ground) Known (Option Row) (ty_level σ) (field_level σ) (row_level σ)
