-- When two lists are the same bag: when they have the same elements, each as often, in whatever order. It is said by weights: for
-- every weight of elements the sums over both agree. `IsPermutation` says the same where equality is decided.
use Rattle.std.specs.Prelude.{◌≡◌, ℕ, ◌+◌, List, [], ◌∷◌}

-- the sum of the weights of the elements
abbrev pub total : {X : Type 0} → (X → ℕ) → List X → ℕ
total weight [] = 0
total weight (x ∷ elements) = weight x + total weight elements

abbrev pub SameBag : {X : Type 0} → List X → List X → Type 0
SameBag {X} elements others = (weight : X → ℕ) → total weight elements ≡ total weight others
