use Rattle.lk_unify.proofs.solvable.load_solvable.Given as goal
use Rattle.lk_unify.specs.Solving.{AreLoaded}

abbrev pub invariant-loop-i : goal.invariant-loop-i
invariant-loop-i l = AreLoaded l.all.loader l.all.sides l.equations l.i
