-- Lists that grow at their end and match one by one.
use Rattle.std.proofs.Common.{◌≡◌, sym, ap, subst, ℕ, zero, suc, ◌+◌, List, [], ◌∷◌, ◌++◌, take, Some, slice_get, arith}
use Rattle.std.proofs.lemmas.Option.{none-some}
use Rattle.lk_types.proofs.Parts.{same_some}
use Rattle.lk_evaluation.specs.Laws.{Both}
use Rattle.lk_evaluation.proofs.Matching.{both-push}

take_one : {A : Type 0} (xs : List A) (i : ℕ) (x : A) → slice_get xs i ≡ Some x → take (suc i) xs ≡ take i xs ++ x ∷ []
take_one [] i x at = absurd (none-some x at)
take_one (y ∷ xs) zero x at = ap (λ z. z ∷ []) (same_some at)
take_one (y ∷ xs) (suc i) x at = ap (λ zs. y ∷ zs) (take_one xs i x at)

pub both_more : {A B : Type 0} (R : A → B → Type 0) (xs : List A) (i : ℕ) (ys more : List B) (x : A) (y : B) → slice_get xs i ≡ Some x → more ≡ ys ++ y ∷ [] → Both R (take i xs) ys → R x y → Both R (take (i + 1) xs) more
both_more R xs i ys more x y at is both one =
    let next : suc i ≡ i + 1 = omega arith in
    subst (λ n. Both R (take n xs) more) next
    (subst (λ zs. Both R (take (suc i) xs) zs) (sym is) (subst (λ zs. Both R zs (ys ++ y ∷ [])) (sym (take_one xs i x at)) (both-push R (take i xs) ys x y both one)))
