-- Answers about the elements of a list, one after the other.
use Rattle.std.proofs.Common.{◌≡◌, ℕ, suc, List, [], ◌∷◌, ◌++◌, length, ◌&&◌, Option, Some, None, option_map, is_some, refl, ap, ◌∙◌, append_assoc}
use Rattle.std.specs.Prelude.{option_and_then, IfSome}
use Rattle.std.specs.List.{list_all}
use Rattle.lk_tables.specs.Choices.{all_some}

-- what is answered of the rest, behind what was answered already
abbrev pub behind : {Y : Type 0} → List Y → Option (List Y) → Option (List Y)
behind done rest = option_map (λ ys. done ++ ys) rest

pub moved : {Y : Type 0} (done : List Y) (y : Y) (rest : Option (List Y)) → behind (done ++ y ∷ []) rest ≡ behind done (option_map (λ ys. y ∷ ys) rest)
moved done y None = refl
moved done y (Some ys) = ap Some (append_assoc done (y ∷ []) ys)

is_some_of_next : {Y : Type 0} (first : Option Y) (rest : Option (List Y)) → is_some (option_and_then (λ y. option_map (λ ys. y ∷ ys) rest) first) ≡ (is_some first && is_some rest)
is_some_of_next None rest = refl
is_some_of_next (Some y) None = refl
is_some_of_next (Some y) (Some ys) = refl

-- there are answers for all where there is one for each
pub some_of_all : {X Y : Type 0} (f : X → Option Y) (xs : List X) → is_some (all_some f xs) ≡ list_all (λ x. is_some (f x)) xs
some_of_all f [] = refl
some_of_all f (x ∷ xs) = is_some_of_next (f x) (all_some f xs) ∙ ap (λ rest. is_some (f x) && rest) (some_of_all f xs)

so_many_next : {Y : Type 0} (n : ℕ) (first : Option Y) (rest : Option (List Y)) → IfSome rest (λ ys. length ys ≡ n)
    → IfSome (option_and_then (λ y. option_map (λ ys. y ∷ ys) rest) first) (λ ys. length ys ≡ suc n)
so_many_next n None rest so = tt
so_many_next n (Some y) None so = tt
so_many_next n (Some y) (Some ys) so = ap suc so

-- there are as many answers as elements
pub as_many : {X Y : Type 0} (f : X → Option Y) (xs : List X) → IfSome (all_some f xs) (λ ys. length ys ≡ length xs)
as_many f [] = refl
as_many f (x ∷ xs) = so_many_next (length xs) (f x) (all_some f xs) (as_many f xs)
