use Rattle.std.proofs.Common.{◌≡◌, take}
use Rattle.lk_types.proofs.levels.LevelRow.copy.Given as goal

abbrev pub invariant-loop-field : goal.invariant-loop-field
invariant-loop-field l = l.fields ≡ take l.field-index l.self.fields
