-- How many branches the normal form of each part has, wherever it stands: the normal form is never built to know it.
use Rattle.std.specs.Prelude.{ℕ, ◌+◌, ◌*◌, List, length}
use Rattle.lk_query.specs.Order.{filled}
use Rattle.lk_query.specs.declared.part.Part.{Part}
use Rattle.lk_query.specs.declared.part.Part.TheVariants as part

module _ (own : ℕ → ℕ) where
  -- one part, by those of its own parts; a base or a record has none
  abbrev pub count_level : ℕ → Part → ℕ
  count_level n (part.If c a b) = own a + own b
  count_level n (part.Items items) = length items
  count_level n (part.Append a b) = own a + own b
  count_level n (part.ForList list x body) = own list * own body
  count_level n (part.Table table labels) = 1
  count_level n (part.Where c list) = own list
  count_level n other = 0

unfoldable pub counts : List Part → ℕ → ℕ
counts parts = filled count_level 0 parts
