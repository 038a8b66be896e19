-- Names that go out of scope.
use Rattle.std.specs.Prelude.{ℕ, List, [], ◌∷◌}
use Rattle.std.specs.FinSet as set
use Rattle.lk_scope.specs.Names.{Names}

-- without these names, the last of them first
abbrev pub without : List (List ℕ) → Names → Names
without [] names = names
without (x ∷ xs) names = set.remove (without xs names) x
