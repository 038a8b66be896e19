use Rattle.std.proofs.Common.{◌≡◌, take}
use Rattle.lk_ground_types.proofs.copies.copy_effects.Given as goal

abbrev pub invariant-loop-effect : goal.invariant-loop-effect
invariant-loop-effect l = l.copies ≡ take l.effect-index l.effects
