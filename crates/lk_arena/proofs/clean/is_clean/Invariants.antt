use Rattle.std.proofs.Common.{ℕ, ◌<◌}
use Rattle.lk_arena.proofs.clean.is_clean.Given as goal
use Rattle.lk_arena.specs.Shapes.{IsCleanAt}

abbrev pub invariant-loop-i : goal.invariant-loop-i
invariant-loop-i l = (k : ℕ) → k < l.i → IsCleanAt l.arena.shapes l.arena.classes k
