use Rattle.std.proofs.Common.{◌≡◌, ◌++◌, take}
use Rattle.lk_arena.proofs.labels.append.Given as goal

abbrev pub invariant-loop-other : goal.invariant-loop-other
invariant-loop-other l = l.fields ≡ l.initial.fields ++ take l.other-index l.others
