use Rattle.std.proofs.Common.{◌≡◌, length}
use Rattle.lk_types.specs.Counts.{AreCounts}
use Rattle.lk_types.specs.Levels.{built}
use Rattle.lk_types.proofs.counts.level_counts.Given as goal

abbrev pub invariant-loop-level : goal.invariant-loop-level
invariant-loop-level l = (length l.counts.items ≡ l.level-index) × AreCounts l.counts.items (built l.levels)
