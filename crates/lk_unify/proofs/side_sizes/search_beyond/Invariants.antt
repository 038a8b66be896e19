use Rattle.std.specs.Prelude.{take}
use Rattle.lk_unify.proofs.side_sizes.search_beyond.Given as goal
use Rattle.lk_unify.specs.SideSizes.{joined, AllMakeFew}
use Rattle.lk_unify.specs.Solving.{AreLoaded}

abbrev pub invariant-loop-k : goal.invariant-loop-k
invariant-loop-k l = record {
  few : AllMakeFew (take l.k (joined l.equations l.sizings));
  loaded : AreLoaded l.all.loader l.all.sides l.equations l.k;
}
