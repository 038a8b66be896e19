-- The ground type that a value is, if it is one, and the ground row, and the set of effects.
use Rattle.std.proofs.Common.{◌≡◌, ◌∙◌, ap}
use Rattle.lk_types.specs.Rows.{Row, EffectSet}
use Rattle.lk_types.specs.declared.ground.Ground.{Ground}
use Rattle.lk_unify.proofs.OpenEffects.{effects_in_row}
use Rattle.lk_unify.proofs.OpenGround.{ground_of, back, ground_row, back_row}
use Rattle.lk_arena.specs.Openings.{as_type, as_row, as_effects}
use Rattle.lk_unify.specs.Reading.{type_in, row_in, effects_in}
use Rattle.lk_arena.specs.Values.{Value, Plain, OfRow, effect_row}

abbrev pub ground_in : Value → Ground
ground_in x = ground_of (type_in x)

abbrev pub ground_row_in : Value → Row
ground_row_in x = ground_row (row_in x)

abbrev pub ground_effects_in : Value → EffectSet
ground_effects_in x = (effects_in (row_in x)).labels

pub ground_in-is : (x : Value) (g : Ground) → x ≡ Plain (as_type g) → ground_in x ≡ g
ground_in-is x g e = ap ground_in e ∙ back g

pub ground_row_in-is : (x : Value) (m : Row) → x ≡ OfRow (as_row m) → ground_row_in x ≡ m
ground_row_in-is x m e = ap ground_row_in e ∙ back_row m

pub ground_effects_in-is : (x : Value) (s : EffectSet) → x ≡ OfRow (effect_row (as_effects s)) → ground_effects_in x ≡ s
ground_effects_in-is x s e = ap ground_effects_in e ∙ ap (λ s. s.labels) (effects_in_row (as_effects s))
