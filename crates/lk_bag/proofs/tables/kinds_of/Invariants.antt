use Rattle.std.proofs.Common.{◌≡◌}
use Rattle.std.specs.Iterator.Adapters.{rev_source}
use Rattle.std.specs.Slice.Iter.{iter_rest}
use Rattle.lk_ast.specs.Tables.{kinds}
use Rattle.lk_bag.proofs.ColumnMaps.{put_all}
use Rattle.lk_bag.proofs.tables.kinds_of.Given as goal

abbrev pub invariant-loop-column : goal.invariant-loop-column
invariant-loop-column l = put_all (iter_rest (rev_source l.column-iterator)) l.kinds ≡ kinds l.columns
