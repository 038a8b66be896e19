use Rattle.std.proofs.Common.{◌≡◌, map, take}
use Rattle.lk_ground_types.specs.Becoming.{part_at}
use Rattle.lk_ground_types.proofs.all_types.parts_at.Given as goal

abbrev pub invariant-loop-field : goal.invariant-loop-field
invariant-loop-field l = l.parts ≡ map (part_at l.numbers) (take l.field-index l.fields)
