use Rattle.std.proofs.Common.{◌≡◌, map, take}
use Rattle.lk_unify.proofs.load_levels.level_fields.Given as goal
use Rattle.lk_unify.specs.LevelLoading.{level_field}

abbrev pub invariant-loop-field : goal.invariant-loop-field
invariant-loop-field l = l.made ≡ map (level_field l.nodes) (take l.field-index l.fields)
