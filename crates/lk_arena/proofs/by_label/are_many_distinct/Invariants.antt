use Rattle.std.proofs.Common.{drop}
use Rattle.lk_arena.proofs.by_label.are_many_distinct.Given as goal
use Rattle.lk_arena.specs.Lookups.{HasNodes}
use Rattle.lk_arena.specs.Shapes.{IsDistinct}

abbrev pub invariant-loop-i : goal.invariant-loop-i
invariant-loop-i l = HasNodes l.nodes (drop l.i l.fields) × IsDistinct (drop l.i l.fields)
