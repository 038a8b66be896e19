use Rattle.lk_arena.proofs.clean.mark_way.Given as goal
use Rattle.lk_arena.specs.Ways.{AreMarked}

abbrev pub invariant-loop-i : goal.invariant-loop-i
invariant-loop-i l = AreMarked l.arena.shapes l.arena.classes l.marks.items
