-- What stands behind a node.
use Rattle.std.proofs.Common.{◌≡◌, ℕ, ◌+◌, Bool, ◌||◌, List, [], ◌∷◌, drop, map, take, refl, ap, ◌∙◌}
use Rattle.std.specs.List.{list_any}
use Rattle.std.proofs.lemmas.List.{drop-map, take-map}
use Rattle.lk_mono.specs.Flatness.{behind}

pub behind_map : {A B : Type 0} → (f : A → B) (number nodes : ℕ) (xs : List A) → behind number nodes (map f xs) ≡ map f (behind number nodes xs)
behind_map f number nodes xs = ap (take nodes) (drop-map f (1 + number) xs) ∙ take-map f nodes (drop (1 + number) xs)

pub any_map : {A B : Type 0} → (test : B → Bool) (f : A → B) (xs : List A) → list_any test (map f xs) ≡ list_any (λ x. test (f x)) xs
any_map test f [] = refl
any_map test f (x ∷ xs) = ap (λ rest. test (f x) || rest) (any_map test f xs)

-- a test of those behind, in other words
pub any_behind : {A B : Type 0} → (test : B → Bool) (f : A → B) (number nodes : ℕ) (xs : List A) → list_any test (behind number nodes (map f xs)) ≡ list_any (λ x. test (f x)) (behind number nodes xs)
any_behind test f number nodes xs = ap (list_any test) (behind_map f number nodes xs) ∙ any_map test f (behind number nodes xs)
