use Rattle.std.proofs.Common.{◌≡◌, map, take}
use Rattle.lk_types.specs.Levels.{built, field_made, types_at}
use Rattle.lk_types.specs.Planted.{Grown}
use Rattle.lk_types.proofs.planting.+planting.Given as goal

abbrev pub invariant-push_trees-loop-ty : goal.invariant-push_trees-loop-ty
invariant-push_trees-loop-ty l = Grown l.fn.levels.items l.levels.items l.places × (types_at l.levels.items l.places ≡ take l.ty-index l.types)

abbrev pub invariant-push_fields-loop-field : goal.invariant-push_fields-loop-field
invariant-push_fields-loop-field l = Grown l.fn.levels.items l.levels.items (map (λ f. f.part) l.made) × (map (field_made (built l.levels.items)) l.made ≡ take l.field-index l.fields)
