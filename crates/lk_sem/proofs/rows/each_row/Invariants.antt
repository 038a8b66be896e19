use Rattle.std.proofs.Common.{◌≡◌, ◌++◌, drop}
use Rattle.std.specs.Option.{option_map}
use Rattle.lk_sem.specs.RowValues.{each_row}
use Rattle.lk_sem.proofs.rows.each_row.Given as goal

abbrev pub invariant-loop-value : goal.invariant-loop-value
invariant-loop-value l = option_map (λ later. l.rows ++ later) (each_row (drop l.value-index l.values)) ≡ each_row l.values
