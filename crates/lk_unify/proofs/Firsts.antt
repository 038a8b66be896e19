-- The first of a list: what holds of each first part of it, and of equations that they have a solution where all have one, and that
-- what is first of theirs is first of all.
use Rattle.std.proofs.Common.{◌≡◌, ℕ, zero, suc, ◌+◌, ◌<◌, ◌≤◌, ⊎_elim, List, [], ◌∷◌, length, take, refl, sym, ap, subst, arith}
use Rattle.std.proofs.lemmas.Bool.{cases_eq}
use Rattle.std.proofs.lemmas.List.{take_all, length-take-le}
use Rattle.lk_types.specs.Sizes.{IsTooLarge, AreSmall, IsFirstTooLarge, IsFirstUnsolvable}
use Rattle.lk_types.specs.Solutions.{HasSolution, IsMet}
use Rattle.lk_types.specs.declared.equation.Equation.{Equation}
use Rattle.lk_unify.proofs.Loadeds.{each_first}
use Rattle.lk_unify.specs.Solving.{IsFirstWithout}

-- the first of the first
pub first_of_first : {A : Type 0} (xs : List A) (j k : ℕ) → j ≤ k → take j (take k xs) ≡ take j xs
first_of_first xs zero k h = refl
first_of_first [] (suc j) zero h = absurd (omega arith)
first_of_first (x ∷ xs) (suc j) zero h = absurd (omega arith)
first_of_first [] (suc j) (suc k) h = refl
first_of_first (x ∷ xs) (suc j) (suc k) h = ap (λ rest. x ∷ rest) (first_of_first xs j k (omega arith))

-- ---- each first part

module _ {A : Type 0} (P : List A → Type 0) where
  abbrev pub AllFirst : List A → Type 0
  AllFirst xs = (k : ℕ) → k ≤ length xs → P (take k xs)

  -- one element more
  pub one_more : (xs : List A) (k : ℕ) → k < length xs → AllFirst (take k xs) → P (take (k + 1) xs) → AllFirst (take (k + 1) xs)
  one_more xs k below before last j h =
      let more : length (take (k + 1) xs) ≡ k + 1 = length-take-le (k + 1) xs (omega arith) in
      let first : length (take k xs) ≡ k = length-take-le k xs (omega arith) in
      subst P (sym (first_of_first xs j (k + 1) (omega arith)))
      (⊎_elim
      (λ (e : j ≡ k + 1). subst (λ n. P (take n xs)) (sym e) last)
      (λ (ne : j ≡ k + 1 → ⊥). subst P (first_of_first xs j k (omega arith)) (before j (omega arith)))
      (cases_eq j (k + 1)))

  pub all_first : (xs : List A) (k : ℕ) → length xs ≤ k → AllFirst (take k xs) → AllFirst xs
  all_first xs k end first = subst AllFirst (take_all k xs end) first

-- ---- equations

pub solution_first : (es : List Equation) (n : ℕ) → HasSolution es → HasSolution (take n es)
solution_first es n solution = (solution.0, each_first (IsMet solution.0) n es solution.1)

pub too_large_first : (es : List Equation) (n k : ℕ) → n ≤ length es → IsFirstTooLarge (take n es) k → IsFirstTooLarge es k
too_large_first es n k within first =
    let l : length (take n es) ≡ n = length-take-le n es within in
    let b = first.within in
    record {
      within = omega arith;
      small = subst AreSmall (first_of_first es k n (omega arith)) first.small;
      large = subst IsTooLarge (first_of_first es (k + 1) n (omega arith)) first.large;
    }

pub unsolvable_first : (es : List Equation) (k : ℕ) → IsFirstWithout es k → AreSmall (take k es) → IsFirstUnsolvable es k
unsolvable_first es k first small = record { within = first.within; small = small; none = first.none }
