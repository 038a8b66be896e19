use Rattle.std.proofs.Common.{◌≡◌, ◌++◌, map}
use Rattle.std.specs.Vec.Iter.{into_iter_items}
use Rattle.lk_ast.specs.Rows.{row_value}
use Rattle.lk_bag.proofs.rows.rows_in.Given as goal

abbrev pub invariant-loop-value : goal.invariant-loop-value
invariant-loop-value l = map row_value l.rows ++ into_iter_items l.value-iterator ≡ l.fn.values
