-- How many branches there are, no further than to one more than are allowed.
use Rattle.std.specs.Prelude.{ℕ, ◌+◌, ◌*◌, ◌-◌, List, length, get_or}
use Rattle.lk_query.specs.declared.part.Part.{Part}
use Rattle.lk_query.specs.declared.part.Part.TheVariants as part

-- n, and 1,025 where it is more
abbrev pub capped : ℕ → ℕ
capped n = n - (n - 1025)

abbrev pub capped_level : (ℕ → ℕ) → ℕ → Part → ℕ
capped_level own n (part.If c a b) = capped (own a + own b)
capped_level own n (part.Items items) = capped (length items)
capped_level own n (part.Append a b) = capped (own a + own b)
capped_level own n (part.ForList list x body) = capped (own list * own body)
capped_level own n (part.Table table labels) = 1
capped_level own n (part.Where c list) = own list
capped_level own n other = 0

-- what is at that place
abbrev pub count_at : List ℕ → ℕ → ℕ
count_at found n = get_or found n 0
