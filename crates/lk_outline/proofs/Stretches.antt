-- Stretches of a list: what stands in it from a number on.
use Rattle.std.proofs.Common.{◌≡◌, refl, sym, ap, ◌∙◌, ℕ, zero, suc, ◌+◌, List, [], ◌∷◌, ◌++◌, length, take, drop, slice_get, Some, append_assoc, append-nil, drop-drop, take_at, drop_at, arith}

-- from that number on the list begins with this part
pub record StandsAt {A : Type 0} (all : List A) (n : ℕ) (part : List A) : Type 0 where
  pub rest : List A
  pub stands : drop n all ≡ part ++ rest

pub whole : {A : Type 0} (all : List A) → StandsAt all 0 all
whole all = record { rest = []; stands = sym (append-nil all) }

first_of : {A : Type 0} (all : List A) (n : ℕ) (x : A) (xs : List A) → drop n all ≡ x ∷ xs → slice_get all n ≡ Some x
first_of [] zero x xs is = absurd cc
first_of [] (suc n) x xs is = absurd cc
first_of (y ∷ all) zero x xs is = let same : y ≡ x = cc in ap Some same
first_of (y ∷ all) (suc n) x xs is = first_of all n x xs is

module _ {A : Type 0} {all : List A} where
  pub front : {n : ℕ} (a b : List A) → StandsAt all n (a ++ b) → StandsAt all n a
  front a b at = record { rest = b ++ at.rest; stands = at.stands ∙ append_assoc a b at.rest }

  pub back : {n : ℕ} (a b : List A) (m : ℕ) → length a ≡ m → StandsAt all n (a ++ b) → StandsAt all (n + m) b
  back {n} a b m long at = record { rest = at.rest; stands = sym (drop-drop m n all) ∙ ap (drop m) (at.stands ∙ append_assoc a b at.rest) ∙ drop_at a (b ++ at.rest) m long }

  pub further : {n : ℕ} {x : A} {xs : List A} → StandsAt all n (x ∷ xs) → StandsAt all (1 + n) xs
  further {n} {x} {xs} at =
      let one_more : 1 + n ≡ n + 1 = omega arith in
      record { rest = at.rest; stands = ap (λ k. drop k all) one_more ∙ sym (drop-drop 1 n all) ∙ ap (drop 1) at.stands }

  -- the element with that number
  pub element : {n : ℕ} {x : A} {xs : List A} → StandsAt all n (x ∷ xs) → slice_get all n ≡ Some x
  element {n} {x} {xs} at = first_of all n x (xs ++ at.rest) at.stands

  -- those behind it
  pub behind_it : {n : ℕ} {x : A} (xs : List A) → StandsAt all n (x ∷ xs) → take (length xs) (drop (1 + n) all) ≡ xs
  behind_it xs at = let at_next = further at in ap (take (length xs)) at_next.stands ∙ take_at xs at_next.rest (length xs) refl
