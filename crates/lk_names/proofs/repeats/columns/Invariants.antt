use Rattle.std.proofs.Common.{◌≡◌, map, drop}
use Rattle.lk_names.specs.Repeats.{items_fault, column_item, columns_fault}
use Rattle.lk_names.proofs.repeats.columns.Given as goal

abbrev pub invariant-loop-column : goal.invariant-loop-column
invariant-loop-column l = items_fault l.met (map column_item (drop l.column-index l.list)) ≡ columns_fault l.list
