use Rattle.std.proofs.Common.{◌≡◌, ◌++◌, map}
use Rattle.lk_bag.proofs.ColumnMaps.{column}
use Rattle.lk_bag.proofs.tables.Kinds.into_columns.Given as goal

abbrev pub invariant-loop-label : goal.invariant-loop-label
invariant-loop-label l = l.columns ++ map column l.label-iterator ≡ map column l.initial.label-iterator
