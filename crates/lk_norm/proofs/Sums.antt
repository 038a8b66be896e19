-- Sums of weights over lists.
use Rattle.std.proofs.Common.{◌≡◌, ℕ, ◌+◌, List, [], ◌∷◌, ◌++◌, map, refl, ◌∙◌, ap, if◌then◌else◌, cond, Bool, true, false, arith}
use Rattle.std.specs.List.{flat_map, filter}
use Rattle.lk_sql.specs.Bags.{total}

pub total-append : {X : Type 0} (f : X → ℕ) (xs ys : List X) → total f (xs ++ ys) ≡ total f xs + total f ys
total-append f [] ys = omega arith
total-append f (x ∷ xs) ys = omega (arith, total-append f xs ys)

pub total-map : {X Y : Type 0} (f : Y → ℕ) (h : X → Y) (xs : List X) → total f (map h xs) ≡ total (λ x. f (h x)) xs
total-map f h [] = refl
total-map f h (x ∷ xs) = ap (λ n. f (h x) + n) (total-map f h xs)

pub total-flat : {X Y : Type 0} (f : Y → ℕ) (h : X → List Y) (xs : List X) → total f (flat_map h xs) ≡ total (λ x. total f (h x)) xs
total-flat f h [] = refl
total-flat f h (x ∷ xs) = total-append f (h x) (flat_map h xs) ∙ ap (λ n. total f (h x) + n) (total-flat f h xs)

pub total-same : {X : Type 0} (f g : X → ℕ) (xs : List X) → ((x : X) → f x ≡ g x) → total f xs ≡ total g xs
total-same f g [] e = refl
total-same f g (x ∷ xs) e = omega (arith, e x, total-same f g xs e)

pub total-plus : {X : Type 0} (f g : X → ℕ) (xs : List X) → total (λ x. f x + g x) xs ≡ total f xs + total g xs
total-plus f g [] = refl
total-plus f g (x ∷ xs) = omega (arith, total-plus f g xs)

pub total-zero : {X : Type 0} (xs : List X) → total (λ x. 0) xs ≡ 0
total-zero [] = refl
total-zero (x ∷ xs) = omega (arith, total-zero xs)

pub total-filter : {X : Type 0} (f : X → ℕ) (p : X → Bool) (xs : List X) → total f (filter p xs) ≡ total (λ x. if p x then f x else 0) xs
total-filter f p [] = refl
total-filter f p (x ∷ xs) = step (p x) (total-filter f p xs)
  where
    step : (b : Bool) → total f (filter p xs) ≡ total (λ z. if p z then f z else 0) xs → total f (cond b (x ∷ filter p xs) (filter p xs)) ≡ cond b (f x) 0 + total (λ z. if p z then f z else 0) xs
    step true e = ap (λ n. f x + n) e
    step false e = omega (arith, e)
