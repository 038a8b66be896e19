use Rattle.std.proofs.Common.{◌≡◌, ◌++◌}
use Rattle.std.specs.Vec.Iter.{into_iter_items}
use Rattle.lk_operators.specs.Records.{labelled}
use Rattle.lk_ir.proofs.operate.label.Given as goal
use Rattle.lk_ir.specs.Operations.{holes}

abbrev pub invariant-loop-value : goal.invariant-loop-value
invariant-loop-value l = l.fields ++ labelled (holes l.rest) (into_iter_items l.value-iterator) ≡ l.initial.fields ++ labelled (holes l.initial.rest) (into_iter_items l.initial.value-iterator)
