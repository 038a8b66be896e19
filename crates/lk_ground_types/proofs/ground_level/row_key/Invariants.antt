use Rattle.std.proofs.Common.{◌≡◌, ◌++◌, take}
use Rattle.std.specs.Prelude.{flat_map}
use Rattle.lk_ground_types.specs.Grounds.{part_key}
use Rattle.lk_ground_types.proofs.ground_level.row_key.Given as goal

abbrev pub invariant-loop-part : goal.invariant-loop-part
invariant-loop-part l = l.key ≡ l.initial.key ++ flat_map part_key (take l.part-index l.parts)
