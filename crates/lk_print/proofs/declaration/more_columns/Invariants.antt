use Rattle.std.proofs.Common.{◌≡◌, ◌++◌, take}
use Rattle.std.specs.Prelude.{flat_map}
use Rattle.lk_print.specs.Printed.{column}
use Rattle.lk_print.specs.Written.{after_comma}
use Rattle.lk_print.proofs.declaration.more_columns.Given as goal

abbrev pub invariant-loop-column : goal.invariant-loop-column
invariant-loop-column l = l.line ≡ l.fn.line ++ flat_map (λ c. after_comma (column c)) (take l.column-index l.columns)
