use Rattle.std.proofs.Common.{◌≡◌, ◌++◌}
use Rattle.std.specs.Vec.Iter.{into_iter_items}
use Rattle.lk_exec.specs.Writings.{kept_rows}
use Rattle.lk_exec.proofs.changes.kept_rows.Given as goal

abbrev pub invariant-loop-row : goal.invariant-loop-row
invariant-loop-row l = l.after ++ kept_rows l.params l.cond (into_iter_items l.row-iterator) ≡ l.initial.after ++ kept_rows l.params l.cond (into_iter_items l.initial.row-iterator)
