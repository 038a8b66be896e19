-- Lists: what stands at a place of a list of two parts, or of a list made from another one.
use Rattle.std.proofs.Common.{◌≡◌, ◌⊎◌, inl, inr, ℕ, zero, suc, ◌+◌, ◌<◌, List, [], ◌∷◌, ◌++◌, length, Some, slice_get, refl, sym, ap, ◌∙◌}
use Rattle.std.proofs.Math.Nat.{suc-add}
use native.Mathlib.Omega.{arith}

none_before : (j : ℕ) → 0 + j ≡ j
none_before j = omega arith

pub get_front : {A : Type 0} (xs ys : List A) (i : ℕ) → i < length xs → slice_get (xs ++ ys) i ≡ slice_get xs i
get_front [] ys i within = absurd (omega arith)
get_front (x ∷ xs) ys zero within = refl
get_front (x ∷ xs) ys (suc i) within = get_front xs ys i (omega arith)

pub get_back : {A : Type 0} (xs ys : List A) (j : ℕ) → slice_get (xs ++ ys) (length xs + j) ≡ slice_get ys j
get_back [] ys j = ap (slice_get ys) (none_before j)
get_back (x ∷ xs) ys j = ap (slice_get (x ∷ (xs ++ ys))) (suc-add (length xs) j) ∙ get_back xs ys j

-- a place of a list of two parts is one of the front or one of the back
pub side : {A : Type 0} (xs ys : List A) (i : ℕ) (x : A) → slice_get (xs ++ ys) i ≡ Some x
    → ((i < length xs) × (slice_get xs i ≡ Some x)) ⊎ ((j : ℕ) × (i ≡ length xs + j) × (slice_get ys j ≡ Some x))
side [] ys i x is = inr (i, sym (none_before i), is)
side (y ∷ xs) ys zero x is = inl (omega arith, is)
side (y ∷ xs) ys (suc i) x is = further (side xs ys i x is)
  where
    further : ((i < length xs) × (slice_get xs i ≡ Some x)) ⊎ ((j : ℕ) × (i ≡ length xs + j) × (slice_get ys j ≡ Some x))
        → ((suc i < suc (length xs)) × (slice_get xs i ≡ Some x)) ⊎ ((j : ℕ) × (suc i ≡ suc (length xs) + j) × (slice_get ys j ≡ Some x))
    further (inl (within, at)) = inl (omega arith, at)
    further (inr (j, behind, at)) = inr (j, omega arith, at)

-- the same place of another list whose parts are as long
pub other_front : {A B : Type 0} (xs : List A) (ys rest : List B) (i : ℕ) (y : B) → length ys ≡ length xs → i < length xs → slice_get (ys ++ rest) i ≡ Some y → slice_get ys i ≡ Some y
other_front xs ys rest i y many within is = sym (get_front ys rest i (omega arith)) ∙ is

pub other_back : {A B : Type 0} (xs : List A) (ys rest : List B) (i j : ℕ) (y : B) → length ys ≡ length xs → i ≡ length xs + j → slice_get (ys ++ rest) i ≡ Some y → slice_get rest j ≡ Some y
other_back xs ys rest i j y many behind is =
    let at : i ≡ length ys + j = omega arith in
    sym (get_back ys rest j) ∙ ap (slice_get (ys ++ rest)) (sym at) ∙ is
