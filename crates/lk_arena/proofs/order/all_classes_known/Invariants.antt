use Rattle.std.proofs.Common.{◌≡◌, ℕ, ◌<◌}
use Rattle.std.specs.Prelude.{IsSome}
use Rattle.lk_arena.proofs.order.all_classes_known.Given as goal
use Rattle.lk_arena.specs.Order.{rank_at}
use Rattle.lk_classes.specs.Classes.{class_at}

abbrev pub invariant-loop-i : goal.invariant-loop-i
invariant-loop-i l = (k : ℕ) → k < l.i → class_at l.classes k ≡ k → IsSome (rank_at l.ranks k)
