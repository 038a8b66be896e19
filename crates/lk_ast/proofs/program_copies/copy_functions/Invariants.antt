use Rattle.std.proofs.Common.{◌≡◌, take}
use Rattle.lk_ast.proofs.program_copies.copy_functions.Given as goal

abbrev pub invariant-loop-function : goal.invariant-loop-function
invariant-loop-function l = l.copies ≡ take l.function-index l.functions
