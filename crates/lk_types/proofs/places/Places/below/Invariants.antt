use Rattle.std.proofs.Common.{reverse}
use Rattle.lk_types.proofs.Gathered.{room, IsGathered}
use Rattle.lk_types.proofs.places.Places.below.Given as goal

abbrev pub invariant-loop-place : goal.invariant-loop-place
invariant-loop-place l = IsGathered l.levels l.roots l.wanted.keys (reverse l.items.items)

abbrev pub decreases-loop-place : goal.decreases-loop-place
decreases-loop-place l = room l.wanted.keys
