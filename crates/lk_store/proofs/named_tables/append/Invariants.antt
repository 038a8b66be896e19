use Rattle.std.proofs.Common.{◌≡◌, ◌++◌}
use Rattle.std.specs.Vec.Iter.{into_iter_items}
use Rattle.lk_store.proofs.named_tables.append.Given as goal

abbrev pub invariant-loop-row : goal.invariant-loop-row
invariant-loop-row l = l.rows ++ into_iter_items l.row-iterator ≡ l.initial.rows ++ into_iter_items l.initial.row-iterator
