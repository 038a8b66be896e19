use Rattle.std.proofs.Common.{◌≡◌, ◌++◌, take}
use Rattle.std.specs.Prelude.{flat_map}
use Rattle.lk_print.specs.Printed.{function}
use Rattle.lk_print.specs.Written.{spaced}
use Rattle.lk_print.proofs.declaration.write_functions.Given as goal

abbrev pub invariant-loop-function : goal.invariant-loop-function
invariant-loop-function l = l.line ≡ l.fn.line ++ flat_map (λ f. flat_map spaced (function f)) (take l.function-index l.functions)
