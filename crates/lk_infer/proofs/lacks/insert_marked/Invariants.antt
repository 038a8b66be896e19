use Rattle.std.proofs.Common.{◌≡◌, drop}
use Rattle.lk_infer.specs.LacksInOrder.{marked_lacks, with_lacks}
use Rattle.lk_infer.proofs.lacks.insert_marked.Given as goal

abbrev pub invariant-loop-place : goal.invariant-loop-place
invariant-loop-place l = with_lacks l.found (marked_lacks (drop l.place l.levels) (drop l.place l.marks)) ≡ with_lacks l.fn.found (marked_lacks l.levels l.marks)
