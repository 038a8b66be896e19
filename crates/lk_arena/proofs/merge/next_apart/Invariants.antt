use Rattle.std.proofs.Common.{length}
use Rattle.lk_arena.proofs.merge.next_apart.Given as goal
use Rattle.lk_arena.specs.Shapes.{AreNodePairs}
use Rattle.lk_arena.specs.Steps.{SamePairs}

abbrev pub invariant-loop-pair : goal.invariant-loop-pair
invariant-loop-pair l = record {
  pairs : AreNodePairs (length l.arena.shapes) l.queue;
  same : SamePairs l.arena.classes l.initial.queue l.queue;
}

abbrev pub decreases-loop-pair : goal.decreases-loop-pair
decreases-loop-pair l = length l.queue
