use Rattle.std.specs.Prelude.{◌-◌, ◌<◌, ◌≤◌, length, take}
use Rattle.lk_unify.proofs.side_sizes.surely_few.Given as goal
use Rattle.lk_unify.specs.SideSizes.{joined, AllMakeFew}

abbrev pub invariant-halving : goal.invariant-halving
invariant-halving l = record {
  ordered : l.low ≤ l.high;
  within : l.high ≤ length l.equations;
  few : AllMakeFew (take l.low (joined l.equations l.sizings));
  step : 0 < l.step;
}

abbrev pub decreases-halving : goal.decreases-halving
decreases-halving l = l.high - l.low
