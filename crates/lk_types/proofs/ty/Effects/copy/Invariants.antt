use Rattle.std.proofs.Common.{◌≡◌, take}
use Rattle.lk_types.proofs.ty.Effects.copy.Given as goal

abbrev pub invariant-loop-label : goal.invariant-loop-label
invariant-loop-label l = l.labels ≡ take l.label-index l.self.labels
