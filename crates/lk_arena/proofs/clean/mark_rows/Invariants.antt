use Rattle.std.proofs.Common.{◌≡◌, length}
use Rattle.lk_arena.proofs.clean.mark_rows.Given as goal
use Rattle.lk_arena.specs.Ways.{AreMarked}

abbrev pub invariant-loop-i : goal.invariant-loop-i
invariant-loop-i l = record {
  count : length l.seen.items ≡ length l.arena.shapes;
  marked : AreMarked l.arena.shapes l.arena.classes l.marks.items;
}
