-- What types show, put into an ordered list.
use Rattle.std.proofs.Common.{◌≡◌, refl, sym, ℕ, ◌+◌, ◌<◌, List, [], ◌∷◌, ◌++◌, map, drop, length, get_or, ◌∙◌, ap}
use Rattle.std.proofs.lemmas.List.{at_drop_more}
use Rattle.std.specs.Prelude.{◌||◌, String, flat_map}
use Rattle.std.specs.BTreeSet.{insert_key}
use Rattle.std.specs.List.{list_any}
use Rattle.std.specs.Ordering.{eq_by_cmp, match_ordering, nat_cmp, ordering_then}
use Rattle.std.specs.String.{string_cmp}
use Rattle.std.specs.declared.cmp.Ordering.{Ordering}
use Rattle.std.specs.declared.cmp.Ordering.TheVariants.{Less, Equal, Greater}
use Rattle.lk_types.specs.declared.scheme.Lack.{Lack}
use Rattle.lk_infer.specs.LacksInOrder.{has_lack, lack_of, with_lack, with_lacks}

pub with_both : (there xs ys : List Lack) → with_lacks (with_lacks there xs) ys ≡ with_lacks there (xs ++ ys)
with_both there [] ys = refl
with_both there (x ∷ xs) ys = with_both (with_lack there x) xs ys

-- one element of a loop more
pub step : {X : Type 0} (f : X → List Lack) (there : List Lack) {new start : List Lack} (xs : List X) (i : ℕ) (x : X) → i < length xs → x ≡ get_or xs i x
    → new ≡ with_lacks there (f x) → with_lacks there (flat_map f (drop i xs)) ≡ start → with_lacks new (flat_map f (drop (i + 1) xs)) ≡ start
step f there xs i x within is added was =
    ap (λ z. with_lacks z (flat_map f (drop (i + 1) xs))) added
    ∙ with_both there (f x) (flat_map f (drop (i + 1) xs))
    ∙ ap (λ z. with_lacks there (f z ++ flat_map f (drop (i + 1) xs))) is
    ∙ sym (at_drop_more (λ z. with_lacks there (flat_map f z)) xs i x within)
    ∙ was

-- ---- the pairs that are kept

abbrev pub pair_cmp : {Z : Type 0} → ℕ × String Z → ℕ × String Z → Ordering
pair_cmp x y = ordering_then (nat_cmp x.0 y.0) (string_cmp x.1 y.1)

pub inserted : {Z : Type 0} (pairs : List (ℕ × String Z)) (pair : ℕ × String Z) → map lack_of (insert_key pair_cmp pairs pair) ≡ with_lack (map lack_of pairs) (lack_of pair)
inserted [] pair = refl
inserted (x ∷ xs) pair =
    elim (pair_cmp pair x) as (λ r. map lack_of (match_ordering r (pair ∷ x ∷ xs) (x ∷ xs) (x ∷ insert_key pair_cmp xs pair)) ≡ match_ordering r (lack_of pair ∷ lack_of x ∷ map lack_of xs) (lack_of x ∷ map lack_of xs) (lack_of x ∷ with_lack (map lack_of xs) (lack_of pair))) [
      | Less ↦ refl
      | Equal ↦ refl
      | Greater ↦ ap (λ z. lack_of x ∷ z) (inserted xs pair)
    ]

pub found_pair : {Z : Type 0} (pairs : List (ℕ × String Z)) (pair : ℕ × String Z) → list_any (eq_by_cmp pair_cmp pair) pairs ≡ has_lack (map lack_of pairs) (lack_of pair)
found_pair [] pair = refl
found_pair (x ∷ xs) pair = ap (λ b. eq_by_cmp pair_cmp pair x || b) (found_pair xs pair)
