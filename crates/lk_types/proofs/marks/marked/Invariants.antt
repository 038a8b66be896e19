use Rattle.lk_types.proofs.Marking.{IsMarking}
use Rattle.lk_types.proofs.marks.marked.Given as goal

abbrev pub invariant-loop-place : goal.invariant-loop-place
invariant-loop-place l = IsMarking l.levels l.roots l.place l.marks.items
