use Rattle.lk_arena.proofs.order.rank_along.Given as goal
use Rattle.lk_arena.specs.Order.{IsRanking}

abbrev pub invariant-loop-node : goal.invariant-loop-node
invariant-loop-node l = IsRanking l.shapes l.classes l.ranking.ranks.items l.ranking.order.items
