use Rattle.std.proofs.Common.{◌≡◌, ◌++◌, drop}
use Rattle.lk_arena.proofs.labels.push_common.Given as goal
use Rattle.lk_arena.specs.Shapes.{common}

abbrev pub invariant-loop-field : goal.invariant-loop-field
invariant-loop-field l = l.queue ++ common (drop l.field-index l.fields) l.others ≡ l.initial.queue ++ common l.fields l.others
