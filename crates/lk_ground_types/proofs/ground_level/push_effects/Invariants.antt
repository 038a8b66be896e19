use Rattle.std.proofs.Common.{◌≡◌, ◌++◌, map, take}
use Rattle.lk_ground_types.specs.Grounds.{effect_number}
use Rattle.lk_ground_types.proofs.ground_level.push_effects.Given as goal

abbrev pub invariant-loop-effect : goal.invariant-loop-effect
invariant-loop-effect l = l.key ≡ l.initial.key ++ map effect_number (take l.effect-index l.effects)
