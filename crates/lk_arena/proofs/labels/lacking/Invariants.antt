use Rattle.std.proofs.Common.{◌≡◌, ◌++◌, drop}
use Rattle.lk_arena.proofs.labels.lacking.Given as goal
use Rattle.lk_arena.specs.Shapes.{missing}

abbrev pub invariant-loop-field : goal.invariant-loop-field
invariant-loop-field l = l.rest ++ missing (drop l.field-index l.fields) l.others ≡ missing l.fields l.others
