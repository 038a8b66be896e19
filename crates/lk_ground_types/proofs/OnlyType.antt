-- The number of the only type of a table.
use Rattle.std.proofs.Common.{arith, ◌≡◌, ℕ, ◌<◌, List, [], ◌∷◌, length, map, Some, slice_get, sym, ap, subst, ◌∙◌}
use Rattle.lk_ground_types.specs.Grounds.{at}
use Rattle.lk_types.proofs.Parts.{same_some}
use Rattle.lk_types.specs.Each.{Each}
use Rattle.lk_types.specs.Grounding.{Grounding, all_of, under}
use Rattle.lk_types.specs.declared.ground.Ground.{Ground}
use Rattle.lk_types.specs.declared.ty.Ty.{Ty}

one_above : 0 < 1
one_above = omega arith

pub first_there : (types : List Ty) (ty : Ty) (numbers : List ℕ) → types ≡ ty ∷ [] → length numbers ≡ length types → 0 < length numbers
first_there types ty numbers are count = subst (λ n. 0 < n) (sym (count ∙ ap length are)) one_above

pub first_is : (ts : List Ground) (σ : Grounding) (types : List Ty) (ty : Ty) (t : Ground) (number : ℕ) (numbers : List ℕ) → types ≡ ty ∷ []
    → ((found : List Ground) → all_of (map (under σ) types) ≡ Some found → map (at ts) numbers ≡ found) → under σ ty ≡ Some t → slice_get numbers 0 ≡ Some number → at ts number ≡ t
first_is ts σ types ty t number [] are made is there = cc
first_is ts σ types ty t number (n ∷ numbers) are made is there =
    let one : all_of (map (under σ) types) ≡ Some (t ∷ []) = ap (λ types. all_of (map (under σ) types)) are ∙ ap (λ o. all_of (o ∷ [])) is in
    sym (ap (at ts) (same_some there)) ∙ ap (head_of t) (made (t ∷ []) one)
  where
    head_of : Ground → List Ground → Ground
    head_of d [] = d
    head_of d (x ∷ xs) = x

pub first_within : (k : ℕ) (numbers : List ℕ) (number : ℕ) → Each (λ n. n < k) numbers → slice_get numbers 0 ≡ Some number → number < k
first_within k [] number all there = cc
first_within k (n ∷ numbers) number all there = subst (λ n. n < k) (same_some there) all.0
