use Rattle.lk_mono.specs.Flatness.{IsPass}
use Rattle.lk_mono.proofs.shapes.mark_callers.Given as goal

abbrev pub invariant-loop-place : goal.invariant-loop-place
invariant-loop-place l = IsPass l.calls l.place l.initial.marks.items l.marks.items l.changed
