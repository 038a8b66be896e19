use Rattle.std.specs.Prelude.{◌≡◌}
use Rattle.lk_unify.proofs.constrained.take_apart.Given as goal
use Rattle.lk_unify.specs.Constraints.{equations_of}
use Rattle.lk_unify.specs.SideSizes.{sizings_of}

abbrev pub invariant-loop-constraint : goal.invariant-loop-constraint
invariant-loop-constraint l = (l.equations ≡ equations_of l.yielded) × (l.sizings ≡ sizings_of l.yielded)
