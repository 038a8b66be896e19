use Rattle.std.proofs.Common.{drop}
use Rattle.lk_arena.proofs.by_label.by_label.Given as goal
use Rattle.lk_arena.specs.Lookups.{HasNodes}

abbrev pub invariant-loop-i : goal.invariant-loop-i
invariant-loop-i l = HasNodes l.nodes (drop l.i l.fields)
