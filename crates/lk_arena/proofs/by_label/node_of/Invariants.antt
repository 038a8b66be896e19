use Rattle.std.proofs.Common.{◌≡◌, drop}
use Rattle.lk_arena.proofs.by_label.node_of.Given as goal
use Rattle.lk_arena.specs.Shapes.{found_at}

abbrev pub invariant-loop-field : goal.invariant-loop-field
invariant-loop-field l = found_at (drop l.field-index l.fields) l.label ≡ found_at l.fields l.label
