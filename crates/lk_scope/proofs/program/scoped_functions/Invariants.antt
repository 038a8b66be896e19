use Rattle.std.proofs.Common.{◌≡◌, map}
use Rattle.lk_scope.specs.Scoped.{scoped_function}
use Rattle.lk_scope.proofs.program.scoped_functions.Given as goal

abbrev pub invariant-loop-function : goal.invariant-loop-function
invariant-loop-function l = l.made ≡ map scoped_function l.yielded
