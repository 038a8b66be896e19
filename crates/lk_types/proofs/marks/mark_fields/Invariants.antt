use Rattle.std.proofs.Common.{◌≡◌, length, map, take}
use Rattle.lk_types.specs.Places.{with_marks}
use Rattle.lk_types.proofs.marks.mark_fields.Given as goal

abbrev pub invariant-loop-field : goal.invariant-loop-field
invariant-loop-field l = (l.marks.items ≡ with_marks l.fn.marks.items (map (λ f. f.part) (take l.field-index l.fields))) × (length l.marks.items ≡ length l.fn.marks.items)
