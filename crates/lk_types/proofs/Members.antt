-- Lists: what holds of each element, and what is among the elements.
use Rattle.std.proofs.Common.{◌≡◌, ◌⊎◌, inl, inr, Bool, true, false, cond, List, [], ◌∷◌, ◌++◌, map, flat_map, ℕ, zero, suc, Some, None, refl, sym, ap, ◌∙◌, subst}
use Rattle.std.specs.Prelude.{find, slice_get}
use Rattle.std.proofs.lemmas.Option.{none-some}
use Rattle.lk_types.proofs.Parts.{same_some}
use Rattle.lk_types.specs.Each.{Each, OneOf}

module _ {A : Type 0} (P : A → Type 0) where
  -- it holds of each element of the front and of the back, or of both
  pub each_front : (xs ys : List A) → Each P (xs ++ ys) → Each P xs
  each_front [] ys all = tt
  each_front (x ∷ xs) ys all = (all.0, each_front xs ys all.1)

  pub each_back : (xs ys : List A) → Each P (xs ++ ys) → Each P ys
  each_back [] ys all = all
  each_back (x ∷ xs) ys all = each_back xs ys all.1

  pub each_both : (xs ys : List A) → Each P xs → Each P ys → Each P (xs ++ ys)
  each_both [] ys front back = back
  each_both (x ∷ xs) ys front back = (front.0, each_both xs ys front.1 back)

  -- of the one at a place
  pub each_at : (xs : List A) (n : ℕ) (x : A) → slice_get xs n ≡ Some x → Each P xs → P x
  each_at [] n x is all = let wrong : None ≡ Some x = is in cc
  each_at (y ∷ xs) zero x is all = let same : y ≡ x = cc in subst P same all.0
  each_at (y ∷ xs) (suc n) x is all = each_at xs n x is all.1

module _ {A : Type 0} (P : A → Type 0) where
  -- what holds of each element holds of one that is there
  pub each_in : (xs : List A) (x : A) → OneOf (λ y. y ≡ x) xs → Each P xs → P x
  each_in [] x one all = absurd one
  each_in (y ∷ xs) x (inl is) all = subst P is all.0
  each_in (y ∷ xs) x (inr later) all = each_in xs x later all.1

  pub each_of_in : (xs : List A) → ((x : A) → OneOf (λ y. y ≡ x) xs → P x) → Each P xs
  each_of_in [] at = tt
  each_of_in (x ∷ xs) at = (at x (inl refl), each_of_in xs (λ y one. at y (inr one)))

  -- it is in the front or in the back of a list
  pub one_of_both : (xs ys : List A) → OneOf P (xs ++ ys) → OneOf P xs ⊎ OneOf P ys
  one_of_both [] ys one = inr one
  one_of_both (x ∷ xs) ys (inl is) = inl (inl is)
  one_of_both (x ∷ xs) ys (inr later) = further (one_of_both xs ys later)
    where
      further : OneOf P xs ⊎ OneOf P ys → OneOf P (x ∷ xs) ⊎ OneOf P ys
      further (inl one) = inl (inr one)
      further (inr one) = inr one

  pub one_in_front : (xs ys : List A) → OneOf P xs → OneOf P (xs ++ ys)
  one_in_front [] ys one = absurd one
  one_in_front (x ∷ xs) ys (inl is) = inl is
  one_in_front (x ∷ xs) ys (inr later) = inr (one_in_front xs ys later)

  pub one_in_back : (xs ys : List A) → OneOf P ys → OneOf P (xs ++ ys)
  one_in_back [] ys one = one
  one_in_back (x ∷ xs) ys one = inr (one_in_back xs ys one)

module _ {A : Type 0} (P Q : A → Type 0) where
  pub each_weaker : ((x : A) → P x → Q x) → (xs : List A) → Each P xs → Each Q xs
  each_weaker f [] all = tt
  each_weaker f (x ∷ xs) all = (f x all.0, each_weaker f xs all.1)

module _ {A B : Type 0} (P : B → Type 0) (f : A → B) where
  pub each_to_map : (xs : List A) → Each (λ x. P (f x)) xs → Each P (map f xs)
  each_to_map [] all = tt
  each_to_map (x ∷ xs) all = (all.0, each_to_map xs all.1)

  pub each_from_map : (xs : List A) → Each P (map f xs) → Each (λ x. P (f x)) xs
  each_from_map [] all = tt
  each_from_map (x ∷ xs) all = (all.0, each_from_map xs all.1)

module _ {A B : Type 0} (P : B → Type 0) (f : A → List B) where
  pub each_flat : (xs : List A) → Each (λ x. Each P (f x)) xs → Each P (flat_map f xs)
  each_flat [] all = tt
  each_flat (x ∷ xs) all = each_both P (f x) (flat_map f xs) all.0 (each_flat xs all.1)

  pub each_in_flat : (xs : List A) → Each P (flat_map f xs) → Each (λ x. Each P (f x)) xs
  each_in_flat [] all = tt
  each_in_flat (x ∷ xs) all = (each_front P (f x) (flat_map f xs) all, each_in_flat xs (each_back P (f x) (flat_map f xs) all))

  pub one_in_flat : (xs : List A) → OneOf P (flat_map f xs) → OneOf (λ x. OneOf P (f x)) xs
  one_in_flat [] one = one
  one_in_flat (x ∷ xs) one = by_side (one_of_both P (f x) (flat_map f xs) one) (one_in_flat xs)
    where
      by_side : OneOf P (f x) ⊎ OneOf P (flat_map f xs) → (OneOf P (flat_map f xs) → OneOf (λ x. OneOf P (f x)) xs) → OneOf P (f x) ⊎ OneOf (λ x. OneOf P (f x)) xs
      by_side (inl here) later = inl here
      by_side (inr there) later = inr (later there)

-- what stands at a place is there
pub one_at : {A : Type 0} (xs : List A) (i : ℕ) (x : A) → slice_get xs i ≡ Some x → OneOf (λ y. y ≡ x) xs
one_at [] i x is = absurd (none-some x is)
one_at (y ∷ xs) zero x is = inl (same_some is)
one_at (y ∷ xs) (suc i) x is = inr (one_at xs i x is)

-- what a test finds is there, and passes it
pub found_in : {A : Type 0} (test : A → Bool) (xs : List A) (x : A) → find test xs ≡ Some x → OneOf (λ y. y ≡ x) xs × (test x ≡ true)
found_in test [] x e = absurd (none-some x e)
found_in {A = A} test (y ∷ ys) x e = by_test (test y) refl e (found_in test ys x)
  where
    by_test : (b : Bool) → test y ≡ b → cond b (Some y) (find test ys) ≡ Some x
        → (find test ys ≡ Some x → OneOf (λ z. z ≡ x) ys × (test x ≡ true)) → OneOf (λ z. z ≡ x) (y ∷ ys) × (test x ≡ true)
    by_test true passes e later = let is : y ≡ x = cc in (inl is, ap test (sym is) ∙ passes)
    by_test false fails e later = let there : OneOf (λ z. z ≡ x) ys × (test x ≡ true) = later e in (inr there.0, there.1)
