use Rattle.lk_arena.proofs.OnceOpen.{CountOpenTo}
use Rattle.lk_arena.proofs.ends.once_open.Given as goal
use Rattle.lk_arena.specs.Counting.{AreEnds}

abbrev pub invariant-loop-i : goal.invariant-loop-i
invariant-loop-i l = record {
  ends : AreEnds l.shapes l.ends.items;
  once : CountOpenTo l.shapes l.classes l.ends.items l.i;
}
