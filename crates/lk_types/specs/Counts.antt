-- Nodes of types by levels, counted up to one more than a type may have.
use Rattle.std.specs.Prelude.{◌≡◌, ◌⊎◌, ℕ, ◌+◌, ◌<◌, ◌≤◌, Bool, List, length, nat_lt, slice_index_or}
use Rattle.lk_types.specs.Levels.{at}
use Rattle.lk_types.specs.Sizes.{most_nodes, nodes}
use Rattle.lk_types.specs.declared.levels.LevelField.{LevelField}
use Rattle.lk_types.specs.declared.ty.Ty.{Ty}

-- the number where a type may have so many, and one more than it may have where it is more
abbrev pub IsCount : ℕ → ℕ → Type 0
IsCount c n = ((c ≡ n) × (n ≤ most_nodes)) ⊎ ((c ≡ most_nodes + 1) × (most_nodes < n))

-- what is counted of the first types
abbrev pub AreCounts : List ℕ → List Ty → Type 0
AreCounts counts ts = (k : ℕ) → k < length counts → IsCount (slice_index_or counts k 0) (nodes (at ts k))

-- the nodes of a field
abbrev pub part_nodes : List Ty → LevelField → ℕ
part_nodes ts f = 1 + nodes (at ts f.part)

abbrev pub is_over : List ℕ → ℕ → Bool
is_over counts n = nat_lt most_nodes (slice_index_or counts n 0)
