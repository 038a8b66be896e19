use Rattle.std.proofs.Common.{◌≡◌, ◌++◌, not}
use Rattle.std.specs.List.{filter}
use Rattle.std.specs.Vec.Iter.{into_iter_items}
use Rattle.lk_bag.specs.Change.{is_met}
use Rattle.lk_bag.proofs.change.keep_others.Given as goal

abbrev pub invariant-loop-row : goal.invariant-loop-row
invariant-loop-row l =
    l.after ++ filter (λ row. not (is_met l.index l.names l.change row)) (into_iter_items l.row-iterator)
    ≡ l.initial.after ++ filter (λ row. not (is_met l.index l.names l.change row)) (into_iter_items l.initial.row-iterator)
