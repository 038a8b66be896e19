use Rattle.std.proofs.Common.{◌≡◌, ◌++◌, drop}
use Rattle.lk_types.specs.Variables.{equation_variables}
use Rattle.lk_unify.proofs.variables.variables_in.Given as goal

abbrev pub invariant-loop-equation : goal.invariant-loop-equation
invariant-loop-equation l = l.variables ++ equation_variables (drop l.equation-index l.equations) ≡ equation_variables l.equations
