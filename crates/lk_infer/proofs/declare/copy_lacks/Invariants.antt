use Rattle.std.specs.Prelude.{◌≡◌, take}
use Rattle.lk_infer.proofs.declare.copy_lacks.Given as goal

abbrev pub invariant-loop-lack : goal.invariant-loop-lack
invariant-loop-lack l = l.copies ≡ take l.lack-index l.lacks
