use Rattle.std.proofs.Common.{◌≡◌, drop, map}
use Rattle.lk_ground_types.specs.Grounds.{effect_number}
use Rattle.lk_lower.proofs.hints.of_effects.Given as goal
use Rattle.lk_lower.specs.Hints.{mix_all}

abbrev pub invariant-loop-effect : goal.invariant-loop-effect
invariant-loop-effect l = mix_all l.mixed (map effect_number (drop l.effect-index l.effects)) ≡ mix_all l.initial.mixed (map effect_number l.effects)
