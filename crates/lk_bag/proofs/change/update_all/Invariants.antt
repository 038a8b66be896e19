use Rattle.std.proofs.Common.{◌≡◌, ◌++◌, map}
use Rattle.std.specs.Vec.Iter.{into_iter_items}
use Rattle.lk_bag.specs.Change.{updated}
use Rattle.lk_bag.proofs.change.update_all.Given as goal

abbrev pub invariant-loop-row : goal.invariant-loop-row
invariant-loop-row l = l.after ++ map (updated l.index l.names l.change) (into_iter_items l.row-iterator) ≡ l.initial.after ++ map (updated l.index l.names l.change) (into_iter_items l.initial.row-iterator)
