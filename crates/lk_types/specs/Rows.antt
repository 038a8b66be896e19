-- Rows of ground types: finite maps from labels to ground types (Rémy, Type inference for records in a natural extension of
-- ML, 1993), so that the order of fields says nothing and no label is there twice. Sets of effects.
use Rattle.std.specs.Prelude.{ℕ, Bool, true, false, ◌||◌, List, [], ◌∷◌, Option, Some, None, map, if◌then◌else◌}
use Rattle.std.specs.Cmp.Lexicographic.{slice_cmp}
use Rattle.std.specs.FinMap as fin
use Rattle.std.specs.List.{filter}
use Rattle.std.specs.Ordering.{nat_cmp}
use Rattle.std.specs.declared.cmp.Ordering.{Ordering}
use Rattle.lk_types.specs.declared.ground.Ground.{Ground}
use Rattle.lk_types.specs.declared.ground.GroundField.{GroundField}
use Rattle.lk_types.specs.declared.ty.Effect.{Effect}
use Rattle.lk_types.specs.declared.ty.Effect.TheVariants.{Local, Move, Print, Rec, Scan, Trap, Write}

abbrev pub Label : Type 0
Label = List ℕ

-- by bytes
abbrev pub label_order : Label → Label → Ordering
label_order = slice_cmp nat_cmp

abbrev pub Row : Type 0
Row = fin.FinMap label_order Ground

abbrev pub no_fields : Row
no_fields = fin.empty

abbrev pub has_label : Row → Label → Bool
has_label row l = fin.contains_key row l

-- the row with one field more, where there are both and the row lacks the label
abbrev pub with_field : Label → Option Ground → Option Row → Option Row
with_field l (Some t) (Some row) = if has_label row l then None else Some (fin.insert row l t)
with_field l _ _ = None

-- the fields in byte order of their labels
abbrev pub fields_of : Row → List GroundField
fields_of row = map (λ e. record { label = e.0; ty = e.1 }) (fin.entries row)

-- ---- effects

abbrev pub EffectSet : Type 0
EffectSet = Effect → Bool

abbrev pub no_effects : EffectSet
no_effects e = false

abbrev pub same_effect : Effect → Effect → Bool
same_effect Local Local = true
same_effect Move Move = true
same_effect Print Print = true
same_effect Rec Rec = true
same_effect Scan Scan = true
same_effect Trap Trap = true
same_effect Write Write = true
same_effect a b = false

-- the set with one effect more, where it lacks it
abbrev pub with_effect : Effect → Option EffectSet → Option EffectSet
with_effect e None = None
with_effect e (Some s) = if s e then None else Some (λ x. same_effect e x || s x)

-- the effects of a set in byte order
abbrev pub effects_of : EffectSet → List Effect
effects_of s = filter s (Local ∷ Move ∷ Print ∷ Rec ∷ Scan ∷ Trap ∷ Write ∷ [])
