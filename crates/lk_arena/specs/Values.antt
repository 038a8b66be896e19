-- Values of nodes: types and rows of types, which may have variables of their own. A set of effects is a row too, each effect a
-- field of the unit type, so that there is one theory of rows (Rémy, Type inference for records in a natural extension of ML, 1993).
use Rattle.std.specs.FinMap as fin
use Rattle.std.specs.Prelude.{◌≡◌, List, [], ◌∷◌, map}
use Rattle.lk_types.specs.Rows.{EffectSet, effects_of}
use Rattle.lk_types.specs.TypeText.{effect_word}
use Rattle.lk_types.specs.declared.ty.Ty.{Ty}
use Rattle.lk_types.specs.declared.ty.Ty.TheVariants as ty
use Rattle.lk_arena.specs.Openings.{OpenRow, OpenEffects, row_type, effects_type, unit_type}
use Rattle.lk_arena.specs.declared.node.Head.{Head}
use Rattle.lk_arena.specs.declared.node.Head.TheVariants as head

pub data Value : Type 0 where
  Plain : (t : Ty) → Value
  OfRow : (row : OpenRow) → Value

-- the effects as fields of the unit type
abbrev pub effect_row : OpenEffects → OpenRow
effect_row s = record { fields = fin.from_entries (map (λ e. (effect_word e, unit_type)) (effects_of s.labels)); tail = s.tail }

-- the value of a constructor whose parts have these values
abbrev pub IsMadeOf : Head → List Value → Value → Type 0
IsMadeOf head.Int [] x = x ≡ Plain ty.Int
IsMadeOf head.Bool [] x = x ≡ Plain ty.Bool
IsMadeOf head.Text [] x = x ≡ Plain ty.Text
IsMadeOf head.List (Plain t ∷ []) x = x ≡ Plain (ty.List t)
IsMadeOf head.Fields (OfRow row ∷ []) x = x ≡ Plain (ty.Fields (row_type row))
IsMadeOf head.Tags (OfRow row ∷ []) x = x ≡ Plain (ty.Tags (row_type row))
IsMadeOf head.Fun (OfRow row ∷ Plain answer ∷ values) x =
    (s : OpenEffects) × (params : List Ty) × (row ≡ effect_row s) × (values ≡ map Plain params) × (x ≡ Plain (ty.Fun params (effects_type s) answer))
IsMadeOf _ _ x = ⊥
