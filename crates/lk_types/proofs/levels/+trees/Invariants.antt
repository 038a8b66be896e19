use Rattle.std.proofs.Common.{◌≡◌, ◌+◌, ◌*◌, map, take}
use Rattle.lk_types.specs.Levels.{at, built, field_made}
use Rattle.lk_types.proofs.levels.+trees.Given as goal

-- parts stand before what they are parts of
abbrev pub decreases-tree_at : goal.decreases-tree_at
decreases-tree_at l = l.place * 2 + 1

abbrev pub decreases-trees_at : goal.decreases-trees_at
decreases-trees_at l = l.below * 2

abbrev pub decreases-row_at : goal.decreases-row_at
decreases-row_at l = l.below * 2

abbrev pub invariant-trees_at-loop-place : goal.invariant-trees_at-loop-place
invariant-trees_at-loop-place l = l.types ≡ map (at (built l.levels)) (take l.place-index l.places)

abbrev pub invariant-row_at-loop-field : goal.invariant-row_at-loop-field
invariant-row_at-loop-field l = l.fields ≡ map (field_made (built l.levels)) (take l.field-index l.row.fields)
