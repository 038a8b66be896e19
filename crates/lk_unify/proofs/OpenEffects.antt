-- The effects of a row of effects are those that it was made of.
use Rattle.std.proofs.Common.{◌≡◌}
use Rattle.lk_unify.proofs.EffectSets.{set_in-effect_row}
use Rattle.lk_arena.specs.Openings.{OpenEffects}
use Rattle.lk_unify.specs.Reading.{effects_in}
use Rattle.lk_arena.specs.Values.{effect_row}

pub effects_in_row : (s : OpenEffects) → effects_in (effect_row s) ≡ s
effects_in_row s = λ i. record { labels = λ e. set_in-effect_row s e i; tail = s.tail }
