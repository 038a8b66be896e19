use Rattle.std.proofs.Common.{length}
use Rattle.lk_arena.proofs.depth.depth_order.Given as goal
use Rattle.lk_arena.specs.Order.{IsSearch}

abbrev pub invariant-loop-i : goal.invariant-loop-i
invariant-loop-i l = IsSearch (length l.shapes) l.search.looks.items l.search.path.items l.search.done.items
