use Rattle.std.proofs.Common.{◌≡◌, ℕ, ◌<◌, ◌≤◌, length}
use Rattle.lk_arena.proofs.order.sweep.Given as goal
use Rattle.lk_arena.specs.Order.{IsRanking, IsStuckAt}

abbrev pub invariant-loop-i : goal.invariant-loop-i
invariant-loop-i l = record {
  ranking : IsRanking l.shapes l.classes l.ranking.ranks.items l.ranking.order.items;
  grows : length l.initial.ranking.order.items ≤ length l.ranking.order.items;
  stuck :
      length l.ranking.order.items ≡ length l.initial.ranking.order.items → (k : ℕ) → k < l.i → IsStuckAt l.shapes l.classes l.ranking.ranks.items k;
}
