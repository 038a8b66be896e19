-- Elements of lists by their places.
use Rattle.std.proofs.Common.{◌≡◌, refl, sym, ap, ◌∙◌, ◌⊎◌, inl, inr, ℕ, zero, suc, ◌+◌, ◌-◌, ◌<◌, ◌≤◌, false, List, [], ◌∷◌, ◌++◌, Option, Some, None, length, map, slice_get, arith}
use Rattle.std.proofs.lemmas.Bool.Decides.{nat_tests}
use Rattle.std.specs.Option.{option_flatten, option_map}
use Rattle.std.specs.Prelude.{nat_lt}
use Rattle.std.proofs.lemmas.Option.{slice_get-map}

-- ---- what is there

pub some_same : {A : Type 0} {x y : A} → ◌≡◌ {A = Option A} (Some x) (Some y) → x ≡ y
some_same is = cc

pub nowhere : {A : Type 0} {x : A} → ◌≡◌ {A = Option A} None (Some x) → ⊥
nowhere is = cc

-- ---- one list behind another

pub get_front : {A : Type 0} (xs ys : List A) (k : ℕ) (x : A) → slice_get xs k ≡ Some x → slice_get (xs ++ ys) k ≡ Some x
get_front [] ys k x at = absurd (nowhere at)
get_front (z ∷ xs) ys zero x at = at
get_front (z ∷ xs) ys (suc k) x at = get_front xs ys k x at

pub get_back : {A : Type 0} (xs ys : List A) (k : ℕ) → slice_get (xs ++ ys) (length xs + k) ≡ slice_get ys k
get_back [] ys k = let none : 0 + k ≡ k = omega arith in ap (slice_get ys) none
get_back (x ∷ xs) ys k = let more : length (x ∷ xs) + k ≡ suc (length xs + k) = omega arith in ap (slice_get (x ∷ (xs ++ ys))) more ∙ get_back xs ys k

-- one of both lists is one of the first, or one of those behind it
pub get_either : {A : Type 0} (xs ys : List A) (k : ℕ) (x : A) → slice_get (xs ++ ys) k ≡ Some x → (slice_get xs k ≡ Some x) ⊎ ((j : ℕ) × (k ≡ length xs + j) × (slice_get ys j ≡ Some x))
get_either [] ys k x at = let none : k ≡ 0 + k = omega arith in inr (k, none, at)
get_either (z ∷ xs) ys zero x at = inl at
get_either {A = A} (z ∷ xs) ys (suc k) x at = by_case (get_either xs ys k x at)
  where
    by_case : (slice_get xs k ≡ Some x) ⊎ ((j : ℕ) × (k ≡ length xs + j) × (slice_get ys j ≡ Some x)) → (slice_get xs k ≡ Some x) ⊎ ((j : ℕ) × (suc k ≡ length (z ∷ xs) + j) × (slice_get ys j ≡ Some x))
    by_case (inl first) = inl first
    by_case (inr rest) = let is = rest.1 in let more : suc k ≡ length (z ∷ xs) + rest.0 = omega (arith, is) in inr (rest.0, more, rest.2)

below : {A : Type 0} (xs ys : List A) (k : ℕ) → k < length xs → slice_get xs k ≡ slice_get (xs ++ ys) k
below [] ys k less = absurd (omega arith)
below (x ∷ xs) ys zero less = refl
below (x ∷ xs) ys (suc k) more = let less : k < length xs = omega arith in below xs ys k less

pub in_front : {A : Type 0} (xs ys : List A) (k count : ℕ) (o : Option A) → count ≡ length xs → k < count → o ≡ slice_get xs k → o ≡ slice_get (xs ++ ys) k
in_front xs ys k count o long less is = let before : k < length xs = omega (arith, long) in is ∙ below xs ys k before

pub behind : {A : Type 0} (xs ys : List A) (k count : ℕ) (o : Option A) → count ≡ length xs → count ≤ k → o ≡ slice_get ys (k - count) → o ≡ slice_get (xs ++ ys) k
behind xs ys k count o long over is =
    let at : k ≡ length xs + (k - count) = omega (arith, long) in
    is ∙ sym (ap (slice_get (xs ++ ys)) at ∙ get_back xs ys (k - count))

-- ---- lists of what is there

-- one of a list that is there as it was asked for
pub get_there : {A : Type 0} (xs : List A) (os : List (Option A)) → map Some xs ≡ os → (k : ℕ) (o : Option A) → slice_get os k ≡ Some o → (x : A) × (slice_get xs k ≡ Some x) × (o ≡ Some x)
get_there {A = A} xs os is k o at = by_place (slice_get xs k) refl (sym (slice_get-map Some xs k) ∙ ap (λ ps. slice_get ps k) is ∙ at)
  where
    by_place : (found : Option A) → slice_get xs k ≡ found → option_map Some found ≡ Some o → (x : A) × (slice_get xs k ≡ Some x) × (o ≡ Some x)
    by_place None at same = absurd (nowhere same)
    by_place (Some x) at same = (x, at, sym (some_same same))

pub flat : {A : Type 0} (o : Option (Option A)) (x : A) → option_flatten o ≡ Some x → o ≡ Some (Some x)
flat None x is = absurd (nowhere is)
flat (Some None) x is = absurd (nowhere is)
flat (Some (Some y)) x is = ap Some is

-- ---- numbers

pub not_before : (n m : ℕ) → nat_lt (n + m) n ≡ false
not_before n m = grind (arith, nat_tests)

pub gone : (n m : ℕ) → (n + m) - n ≡ m
gone n m = omega arith
