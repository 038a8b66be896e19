use Rattle.std.specs.Prelude.{map, take}
use Rattle.lk_unify.proofs.side_sizes.first_over.Given as goal
use Rattle.lk_unify.specs.SideSizes.{last_by, AreAllWithin}
use Rattle.lk_arena.specs.Counting.{count_at}

abbrev pub invariant-loop-i : goal.invariant-loop-i
invariant-loop-i l = AreAllWithin (last_by l.late) (take l.i l.sizings) (map (λ n. (count_at l.classes l.counts n).as_type) (take l.i l.sides))
