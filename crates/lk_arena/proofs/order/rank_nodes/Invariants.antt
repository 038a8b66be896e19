use Rattle.std.proofs.Common.{◌-◌, length}
use Rattle.lk_arena.proofs.order.rank_nodes.Given as goal
use Rattle.lk_arena.specs.Order.{IsRanking}

abbrev pub invariant-sweeps : goal.invariant-sweeps
invariant-sweeps l = IsRanking l.shapes l.classes l.ranking.ranks.items l.ranking.order.items

abbrev pub decreases-sweeps : goal.decreases-sweeps
decreases-sweeps l = length l.shapes - length l.ranking.order.items
