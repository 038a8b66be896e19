use Rattle.std.proofs.Common.{◌≡◌, ◌++◌, drop}
use Rattle.std.specs.Option.{option_map}
use Rattle.lk_sem.specs.RowValues.{cells_in}
use Rattle.lk_sem.proofs.rows.cells_in.Given as goal

abbrev pub invariant-loop-field : goal.invariant-loop-field
invariant-loop-field l = option_map (λ later. l.cells ++ later) (cells_in (drop l.field-index l.fields)) ≡ cells_in l.fields
