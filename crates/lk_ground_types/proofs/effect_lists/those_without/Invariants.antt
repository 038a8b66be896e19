use Rattle.std.proofs.Common.{◌≡◌, take}
use Rattle.lk_ground_types.specs.Bound.{without}
use Rattle.lk_ground_types.proofs.effect_lists.those_without.Given as goal

abbrev pub invariant-loop-label : goal.invariant-loop-label
invariant-loop-label l = l.left ≡ without (take l.label-index l.labels) l.others
