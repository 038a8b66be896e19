-- What holds of what is found for each part, by what holds for its own parts; the part is known by its place.
use Rattle.std.proofs.Common.{◌≡◌, ℕ, suc, ◌+◌, ◌<◌, ◌==◌, if◌then◌else◌, Bool, true, false, List, [], ◌∷◌, length, Some, slice_get, refl, subst, sym, arith}
use Rattle.std.proofs.lemmas.Bool.{eqb-true, eq-eqb}
use Rattle.lk_query.specs.Order.{bind, filled, filled_from}
use Rattle.lk_query.specs.declared.part.Part.{Part}

module _ {X : Type 0} (P : ℕ → X → Type 0) (At : ℕ → Part → Type 0) (level : (ℕ → X) → ℕ → Part → X) (step : (n : ℕ) (x : Part) → At n x → (f : ℕ → X) → ((k : ℕ) → k < n → P k (f k)) → P n (level f n x)) where
  abbrev AllBefore : ℕ → (ℕ → X) → Type 0
  AllBefore n found = (k : ℕ) → k < n → P k (found k)

  next-placed : (n : ℕ) (found : ℕ → X) (x : Part) → At n x → AllBefore n found → AllBefore (n + 1) (bind n (level found n x) found)
  next-placed n found x at all k l = by_place (k == n) refl
    where
      by_place : (b : Bool) → k == n ≡ b → P k (if b then level found n x else found k)
      by_place true e = subst (λ m. P m (level found n x)) (sym (eqb-true k n e)) (step n x at found all)
      by_place false e = all k (omega (arith, l, not_here))
        where
          not_here : k ≡ n → ⊥
          not_here is = let on : (k == n) ≡ true = eq-eqb k n is in cc

  placed-from : (n : ℕ) (found : ℕ → X) (parts : List Part) → AllBefore n found → ((k : ℕ) (x : Part) → slice_get parts k ≡ Some x → At (n + k) x) → AllBefore (n + length parts) (filled_from level n found parts)
  placed-from n found [] all at k l = all k (omega (arith, l))
  placed-from n found (x ∷ parts) all at k l =
      placed-from (n + 1) (bind n (level found n x) found) parts
      (next-placed n found x (subst (λ m. At m x) (zero_behind n) (at 0 x refl)) all)
      (λ j y is. subst (λ m. At m y) (omega arith) (at (suc j) y is)) k (omega (arith, l))
    where
      zero_behind : (n : ℕ) → n + 0 ≡ n
      zero_behind n = omega arith

  pub filled-placed : (nothing : X) (parts : List Part) → ((k : ℕ) (x : Part) → slice_get parts k ≡ Some x → At k x) → (k : ℕ) → k < length parts → P k (filled level nothing parts k)
  filled-placed nothing parts at k l = placed-from 0 (λ n. nothing) parts (λ k l. absurd (omega (arith, l))) (λ j x is. subst (λ m. At m x) (omega arith) (at j x is)) k (omega (arith, l))
