use Rattle.std.proofs.Common.{drop}
use Rattle.lk_arena.proofs.by_label.are_few_distinct.Given as goal
use Rattle.lk_arena.specs.Shapes.{IsDistinct}

abbrev pub invariant-loop-i : goal.invariant-loop-i
invariant-loop-i l = (IsDistinct (drop l.i l.fields) → IsDistinct l.fields) × (IsDistinct l.fields → IsDistinct (drop l.i l.fields))
