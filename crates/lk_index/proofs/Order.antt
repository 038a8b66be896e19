-- Words in byte order, each once.
use Rattle.std.proofs.Common.{◌≡◌, refl, sym, ap, ◌∙◌, subst, ℕ, Bool, true, false, ◌||◌, cond, T, List, [], ◌∷◌, map, Option, Some, None}
use Rattle.std.specs.Borrow.{Bor}
use Rattle.std.specs.BTreeSet.{BTreeSet, IsFromIterResult}
use Rattle.std.specs.Cmp.Lexicographic.{slice_cmp}
use Rattle.std.specs.FinMap as finite
use Rattle.std.specs.FinMap.{nat_cmp-IsAntisymmetric, slice_cmp-IsAntisymmetric}
use Rattle.std.specs.FinMap.Entries.{find, is_sorted, below_all}
use Rattle.std.specs.List.{list_any, AllByRecursion}
use Rattle.std.specs.List.Sorted.{IsStrictlySortedBy}
use Rattle.std.specs.Ordering.{nat_cmp, eq_by_cmp, is_lt}
use Rattle.std.specs.declared.cmp.Ordering.{Ordering}
use Rattle.std.specs.declared.cmp.Ordering.TheVariants.{Less}
use Rattle.std.proofs.lemmas.Cmp.{nat_list_cmp_total}
use Rattle.std.proofs.Math.Facts.{yes_and}
use Rattle.lk_index.specs.Free.{texts, byte_order, in_byte_order}

abbrev order : List ℕ → List ℕ → Ordering
order = slice_cmp nat_cmp

abbrev keyed : List (List ℕ) → List (List ℕ × Unit {0})
keyed words = map (λ word. (word, tt {0})) words

abbrev found : Bool → Option (Unit {0})
found there = cond there (Some (tt {0})) None

find-keyed : (q : List ℕ) (words : List (List ℕ)) → find order q (keyed words) ≡ found (list_any (eq_by_cmp order q) words)
find-keyed q [] = refl
find-keyed q (word ∷ words) = elim (eq_by_cmp order q word) as (λ b. cond b (Some (tt {0})) (find order q (keyed words)) ≡ found (b || list_any (eq_by_cmp order q) words)) [ true ↦ refl | false ↦ find-keyed q words ]

below-keyed : (x : List ℕ) (ks : List (List ℕ)) → AllByRecursion (λ y. order x y ≡ Less) ks → T (below_all order x (keyed ks))
below-keyed x [] below = tt
below-keyed x (k ∷ ks) below = yes_and _ _ (subst (λ r. T (is_lt r)) (sym below.0) tt) (below-keyed x ks below.1)

sorted-keyed : (ks : List (List ℕ)) → IsStrictlySortedBy order ks → T (is_sorted order (keyed ks))
unfolding IsStrictlySortedBy
sorted-keyed [] rise = tt
sorted-keyed (k ∷ ks) rise = yes_and _ _ (below-keyed k ks rise.0) (sorted-keyed ks rise.1)

keys-keyed : (ks : List (List ℕ)) → map (λ e. e.0) (keyed ks) ≡ ks
keys-keyed [] = refl
keys-keyed (k ∷ ks) = ap (λ rest. k ∷ rest) (keys-keyed ks)

-- words that strictly rise, with the same members
same_order : (ks words : List (List ℕ)) → IsStrictlySortedBy order ks → ((q : List ℕ) → list_any (eq_by_cmp order q) ks ≡ list_any (eq_by_cmp order q) words) → ks ≡ in_byte_order words
same_order ks words rise same =
    let sorted : T (is_sorted order (keyed ks)) = sorted-keyed ks rise in
    let is : finite.from_sorted (keyed ks) ≡ finite.from_entries {R = order} (keyed words) = finite.same_map nat_list_cmp_total (slice_cmp-IsAntisymmetric nat_cmp-IsAntisymmetric) _ _ (λ q.
    finite.get-from_sorted order (keyed ks) q sorted ∙ find-keyed q ks ∙ ap found (same q) ∙ sym (find-keyed q words) ∙ sym (finite.get-from_entries nat_list_cmp_total (keyed words) q)) in
    sym (keys-keyed ks) ∙ ap (map (λ e. e.0)) (sym (finite.entries-from_sorted order (keyed ks) sorted)) ∙ ap finite.keys is

any-texts : (q : List ℕ) (names : List (Bor (List ℕ))) → list_any (eq_by_cmp order q) (texts names) ≡ list_any (λ (name : Bor (List ℕ)). eq_by_cmp order q name.now) names
any-texts q [] = refl
any-texts q (name ∷ names) = ap (λ b. eq_by_cmp order q name.now || b) (any-texts q names)

below-texts : (x : List ℕ) (names : List (Bor (List ℕ))) → AllByRecursion (λ (y : Bor (List ℕ)). order x y.now ≡ Less) names → AllByRecursion (λ y. order x y ≡ Less) (texts names)
below-texts x [] below = tt
below-texts x (name ∷ names) below = (below.0, below-texts x names below.1)

sorted-texts : (names : List (Bor (List ℕ))) → IsStrictlySortedBy byte_order names → IsStrictlySortedBy order (texts names)
unfolding IsStrictlySortedBy
sorted-texts [] rise = tt
sorted-texts (name ∷ names) rise = (below-texts name.now names rise.0, sorted-texts names rise.1)

-- the keys of a set that was made of byte_order names
pub collected_order : (names : List (Bor (List ℕ))) (made : BTreeSet (Bor (List ℕ))) → IsFromIterResult byte_order names made → texts made.keys ≡ in_byte_order (texts names)
collected_order names made is = same_order (texts made.keys) (texts names) (sorted-texts made.keys is.1) (λ q. any-texts q made.keys ∙ is.0 (record { ref_ptr = (0, 0); now = q }) ∙ sym (any-texts q names))
