use Rattle.std.proofs.Common.{◌≡◌, ℕ, Some}
use Rattle.std.specs.Prelude.{take}
use Rattle.lk_types.specs.declared.ty.Variable.{Variable}
use Rattle.lk_unify.proofs.solvable.bind_all.Given as goal
use Rattle.lk_unify.specs.Loading.{node_for}
use Rattle.lk_unify.specs.Solving.{AreBound, IsStart}

abbrev pub invariant-loop-variable : goal.invariant-loop-variable
invariant-loop-variable l =
    IsStart l.loader × AreBound l.loader (take l.variable-index l.variables) × ((x : Variable) (n : ℕ) → node_for l.fn.loader x ≡ Some n → node_for l.loader x ≡ Some n)
