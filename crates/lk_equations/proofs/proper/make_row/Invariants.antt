use Rattle.std.specs.Iterator.Adapters.{rev_source}
use Rattle.std.specs.Slice.Iter.{iter_rest}
use Rattle.lk_equations.proofs.Columns.{AreLeft}
use Rattle.lk_equations.proofs.proper.make_row.Given as goal

abbrev pub invariant-loop-column : goal.invariant-loop-column
invariant-loop-column l = AreLeft l.row (iter_rest (rev_source l.column-iterator)) l.columns
