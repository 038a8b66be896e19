use Rattle.std.proofs.Common.{◌≡◌, length, take}
use Rattle.lk_types.specs.Places.{with_marks}
use Rattle.lk_types.proofs.marks.mark_all.Given as goal

abbrev pub invariant-loop-place : goal.invariant-loop-place
invariant-loop-place l = (l.marks.items ≡ with_marks l.fn.marks.items (take l.place-index l.places)) × (length l.marks.items ≡ length l.fn.marks.items)
