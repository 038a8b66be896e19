use Rattle.std.proofs.Common.{◌≡◌, take}
use Rattle.lk_ast.proofs.program_copies.copy_table.Given as goal

abbrev pub invariant-loop-column : goal.invariant-loop-column
invariant-loop-column l = l.columns ≡ take l.column-index l.column-items
