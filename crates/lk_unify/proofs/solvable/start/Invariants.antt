use Rattle.std.specs.Prelude.{take}
use Rattle.lk_types.specs.Variables.{equation_variables}
use Rattle.lk_unify.proofs.solvable.start.Given as goal
use Rattle.lk_unify.specs.Solving.{AreBound, IsStart}

abbrev pub invariant-loop-equation : goal.invariant-loop-equation
invariant-loop-equation l = IsStart l.loader × AreBound l.loader (equation_variables (take l.equation-index l.equations))
