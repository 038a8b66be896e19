use Rattle.std.proofs.Common.{List, map, take}
use Rattle.std.specs.Prelude.{sum}
use Rattle.lk_types.specs.Counts.{AreCounts, IsCount}
use Rattle.lk_types.specs.Levels.{at}
use Rattle.lk_types.specs.Sizes.{nodes}
use Rattle.lk_types.specs.declared.ty.Ty.{Ty}
use Rattle.lk_types.proofs.counts.count_all.Given as goal

abbrev pub invariant-loop-place : goal.invariant-loop-place
invariant-loop-place l = (ts : List Ty) → AreCounts l.counts ts → IsCount l.total (sum (map (λ n. nodes (at ts n)) (take l.place-index l.places)))
