use Rattle.std.proofs.Common.{length}
use Rattle.lk_arena.proofs.Looks.{to_do}
use Rattle.lk_arena.proofs.depth.go_down.Given as goal
use Rattle.lk_arena.specs.Order.{IsSearch}

abbrev pub invariant-down : goal.invariant-down
invariant-down l = IsSearch (length l.shapes) l.search.looks.items l.search.path.items l.search.done.items

abbrev pub decreases-down : goal.decreases-down
decreases-down l = to_do l.shapes l.search.looks.items l.search.path.items
