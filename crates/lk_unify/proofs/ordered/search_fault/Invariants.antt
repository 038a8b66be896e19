use Rattle.std.specs.Prelude.{◌-◌, ◌<◌, ◌≤◌, length, take}
use Rattle.lk_types.specs.Solutions.{HasSolution}
use Rattle.lk_unify.proofs.ordered.search_fault.Given as goal

abbrev pub invariant-halving : goal.invariant-halving
invariant-halving l = record {
  ordered : l.low < l.high;
  within : l.high ≤ length l.equations;
  solvable : HasSolution (take l.low l.equations);
  never : HasSolution (take l.high l.equations) → ⊥;
}

abbrev pub decreases-halving : goal.decreases-halving
decreases-halving l = l.high - l.low
