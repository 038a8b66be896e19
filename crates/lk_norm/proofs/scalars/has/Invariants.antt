use Rattle.std.proofs.Common.{◌≡◌, drop}
use Rattle.lk_norm.specs.Made.{has_label}
use Rattle.lk_norm.proofs.scalars.has.Given as goal

abbrev pub invariant-loop-one : goal.invariant-loop-one
invariant-loop-one l = has_label (drop l.one-index l.labels) l.label ≡ has_label l.labels l.label
