use Rattle.std.proofs.Common.{◌≡◌, length}
use Rattle.lk_arena.proofs.CountSums.{AreDone}
use Rattle.lk_arena.proofs.counting.counts.Given as goal
use Rattle.lk_arena.specs.Counting.{end_at}

abbrev pub invariant-loop-node : goal.invariant-loop-node
invariant-loop-node l = record {
  count : length l.counts.items ≡ length l.shapes;
  done : AreDone (end_at l.ends) l.shapes l.classes l.order l.counts.items l.node-index;
}
