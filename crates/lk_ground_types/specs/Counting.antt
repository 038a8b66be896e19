-- Counting nodes up to one more than a type may have.
use Rattle.std.specs.Prelude.{ℕ, ◌+◌, min}
use Rattle.lk_types.specs.Sizes.{most_nodes}

-- the number, or one more than a type may have, if that is less
unfoldable pub capped : ℕ → ℕ
capped n = min n (1 + most_nodes)
