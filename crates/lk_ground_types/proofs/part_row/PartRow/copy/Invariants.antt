use Rattle.std.proofs.Common.{◌≡◌}
use Rattle.std.specs.FinMap as fin
use Rattle.lk_ground_types.proofs.StringRows.{keyed, put_all}
use Rattle.lk_ground_types.proofs.part_row.PartRow.copy.Given as goal

abbrev pub invariant-loop-label : goal.invariant-loop-label
invariant-loop-label l = put_all l.row (keyed l.label-iterator) ≡ put_all fin.empty (keyed l.initial.label-iterator)
