-- The local names in scope.
use Rattle.std.specs.Prelude.{ℕ, Bool, List, [], ◌∷◌, Option, Some, None}
use Rattle.std.specs.Cmp.Lexicographic.{slice_cmp}
use Rattle.std.specs.FinSet as set
use Rattle.std.specs.Ordering.{nat_cmp}
use Rattle.lk_ast.specs.declared.place.Word.{Word}

-- a set of names
abbrev pub Names : Type 0
Names = set.FinSet (slice_cmp nat_cmp)

-- no name is in scope
abbrev pub no_names : Names
no_names = set.empty

abbrev pub is_local : Names → List ℕ → Bool
is_local names x = set.contains names x

-- one more name
abbrev pub bind : Word → Names → Names
bind x names = set.insert names x.text

-- the names of a list, as of parameters
abbrev pub bind_all : List Word → Names → Names
bind_all [] names = names
bind_all (x ∷ words) names = bind_all words (bind x names)

abbrev pub bind_some : Option Word → Names → Names
bind_some None names = names
bind_some (Some x) names = bind x names
