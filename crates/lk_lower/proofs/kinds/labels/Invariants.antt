use Rattle.std.proofs.Common.{◌≡◌, take}
use Rattle.lk_lower.specs.Lowering.{labels_of}
use Rattle.lk_lower.proofs.kinds.labels.Given as goal

abbrev pub invariant-loop-part : goal.invariant-loop-part
invariant-loop-part l = l.labels ≡ labels_of (take l.part-index l.parts)
