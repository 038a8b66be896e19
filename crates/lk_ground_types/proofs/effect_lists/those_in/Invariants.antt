use Rattle.std.proofs.Common.{◌≡◌, ◌||◌, take}
use Rattle.std.specs.List.{filter}
use Rattle.lk_ground_types.specs.Bound.{is_listed}
use Rattle.lk_ground_types.proofs.effect_lists.those_in.Given as goal

abbrev pub invariant-loop-effect : goal.invariant-loop-effect
invariant-loop-effect l = l.found ≡ filter (λ e. is_listed l.labels e || is_listed l.more e) (take l.effect-index l.effects)
