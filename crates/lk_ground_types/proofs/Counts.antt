-- Counting up to a limit, one after another.
use Rattle.std.proofs.Common.{◌≡◌, ℕ, ◌+◌, ◌<◌, List, ◌++◌, length, take, get_or, map, sym, ap, ◌∙◌, arith}
use Rattle.std.proofs.lemmas.List.Sums.{sum_by-append}
use Rattle.std.specs.Prelude.{sum}
use Rattle.lk_types.proofs.Counted.{one_more}
use Rattle.lk_ground_types.specs.Counting.{capped}

capped_both : (a x y : ℕ) → capped (capped (a + x) + y) ≡ capped (a + (x + y))
unfolding capped
capped_both a x y = omega arith

sum_append : (xs ys : List ℕ) → sum (xs ++ ys) ≡ sum xs + sum ys
sum_append xs ys = sum_by-append (λ x. x) xs ys

alone : (x : ℕ) → 0 + x ≡ x
alone x = omega arith

module _ {X : Type 0} (f : X → ℕ) (xs : List X) (a i : ℕ) where
  -- one more is counted
  pub count_more : (x d : X) (q r : ℕ) → i < length xs → x ≡ get_or xs i d → q ≡ capped (a + sum (map f (take i xs))) → r ≡ capped (q + f x)
      → r ≡ capped (a + sum (map f (take (i + 1) xs)))
  count_more x d q r below x_is before now =
      now ∙ (λ i. capped (before i + f (x_is i))) ∙ capped_both a (sum (map f (take _ xs))) (f (get_or xs _ d)) ∙ ap (λ n. capped (a + n)) (sym (one_more f xs _ d below))
