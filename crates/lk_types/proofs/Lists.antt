-- Lists of lists, one behind the other or with something between.
use Rattle.std.proofs.Common.{◌≡◌, ℕ, List, [], ◌∷◌, ◌++◌, map, refl, sym, ap, ◌∙◌, append_assoc, append-nil}
use Rattle.std.specs.List.{join_by}
use Rattle.std.specs.Prelude.{codes, flat_map}
use Rattle.lk_types.specs.TypeText.{separated}
use Rattle.lk_types.specs.Variables.{joined}
use Rattle.lk_types.specs.declared.ty.Variable.{Variable}

pub behind_both : (a b c : List Variable) → (a ++ b) ++ c ≡ a ++ (b ++ c)
behind_both a b c = append_assoc a b c

pub texts_both : (a b c : List ℕ) → (a ++ b) ++ c ≡ a ++ (b ++ c)
texts_both a b c = append_assoc a b c

pub nothing_behind : {A : Type 0} (xs ys : List A) → ys ≡ [] → xs ≡ xs ++ ys
nothing_behind xs ys none = sym (ap (λ z. xs ++ z) none ∙ append-nil xs)

pub joined_map : {X A : Type 0} (f : X → List A) (xs : List X) → joined (map f xs) ≡ flat_map f xs
joined_map f [] = refl
joined_map f (x ∷ xs) = ap (λ z. f x ++ z) (joined_map f xs)

behind_map : {X : Type 0} (f : X → List ℕ) (xs : List X) → flat_map (λ text. codes "," ++ text) (map f xs) ≡ flat_map (λ x. codes "," ++ f x) xs
behind_map f [] = refl
behind_map f (x ∷ xs) = ap (λ z. (codes "," ++ f x) ++ z) (behind_map f xs)

pub separated_map : {X : Type 0} (f : X → List ℕ) (xs : List X) → separated (map f xs) ≡ join_by f (codes ",") xs
separated_map f [] = refl
separated_map f (x ∷ xs) = ap (λ z. f x ++ z) (behind_map f xs)

-- what stands before the first comma
abbrev pub front : {X : Type 0} → (X → List ℕ) → List X → List ℕ
front f [] = []
front f (x ∷ xs) = f x

-- what stands behind a comma each
abbrev pub behind : {X : Type 0} → (X → List ℕ) → List X → List ℕ
behind f xs = flat_map (λ x. codes "," ++ f x) xs
