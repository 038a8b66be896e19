use Rattle.std.proofs.Common.{◌≡◌, ◌++◌}
use Rattle.std.specs.Vec.Iter.{into_iter_items}
use Rattle.lk_bag.proofs.walk.add_all.Given as goal

abbrev pub invariant-loop-value : goal.invariant-loop-value
invariant-loop-value l = l.found ++ into_iter_items l.value-iterator ≡ l.initial.found ++ into_iter_items l.initial.value-iterator
