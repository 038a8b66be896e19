-- How large ground types are: a base, list, record, variant, function, label or effect each counts one.
use Rattle.std.specs.Prelude.{ℕ, ◌+◌, Bool, length, sum, nat_le}
use Rattle.lk_types.specs.Sizes.{most_nodes}
use Rattle.lk_types.specs.declared.ground.Ground.{Ground, fold-Ground}
use Rattle.lk_types.specs.declared.ground.Ground.TheOpen.{Ground-F, GroundField-F}
use Rattle.lk_types.specs.declared.ground.GroundField.{GroundField, fold-GroundField}

abbrev pub level : Ground-F ℕ ℕ → ℕ
level (Ground-F.List t) = 1 + t
level (Ground-F.Fields fields) = 1 + sum fields
level (Ground-F.Tags tags) = 1 + sum tags
level (Ground-F.Fun params es answer) = 1 + (sum params + (length es + answer))
level other = 1

abbrev pub field_level : GroundField-F ℕ ℕ → ℕ
field_level f = 1 + f.ty

unfoldable pub ground_nodes : Ground → ℕ
ground_nodes = fold-Ground ℕ ℕ level field_level

unfoldable pub field_nodes : GroundField → ℕ
field_nodes = fold-GroundField ℕ ℕ level field_level

-- whether it has no more nodes than a type may have
abbrev pub fits : Ground → Bool
fits t = nat_le (ground_nodes t) most_nodes
