use Rattle.std.proofs.Common.{◌≡◌, take}
use Rattle.lk_unify.proofs.load.effect_fields.Given as goal
use Rattle.lk_unify.specs.Loading.{effect_fields}

abbrev pub invariant-loop-effect : goal.invariant-loop-effect
invariant-loop-effect l = l.fields ≡ effect_fields l.unit (take l.effect-index l.effects)
