use Rattle.std.proofs.Common.{◌≡◌, ◌++◌, take}
use Rattle.lk_arena.proofs.merge.push_pairs.Given as goal
use Rattle.lk_arena.specs.Steps.{paired}

abbrev pub invariant-loop-i : goal.invariant-loop-i
invariant-loop-i l = l.queue ≡ l.initial.queue ++ paired (take l.i l.lefts) (take l.i l.rights)
