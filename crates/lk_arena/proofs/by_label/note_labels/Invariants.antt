use Rattle.std.proofs.Common.{◌≡◌, drop}
use Rattle.std.specs.Prelude.{◌||◌}
use Rattle.lk_types.specs.Rows.{Label}
use Rattle.lk_arena.proofs.by_label.note_labels.Given as goal
use Rattle.lk_arena.specs.Lookups.{is_label, is_noted}

abbrev pub invariant-loop-i : goal.invariant-loop-i
invariant-loop-i l = (label : Label) → is_noted l.labels label ≡ (is_label (drop l.i l.fields) label || is_noted l.initial.labels label)
