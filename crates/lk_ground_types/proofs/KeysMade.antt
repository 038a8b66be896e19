-- A map from keys to numbers, as a finite map.
use Rattle.std.proofs.Common.{◌≡◌, ℕ, ◌&&◌, T, List, [], ◌∷◌, map, Less, Equal, Greater, is_lt, nat_cmp, refl, sym, ap, subst, ◌∙◌, Some, cond, Vec}
use Rattle.std.specs.BTreeMap.{BTreeMap, get_by, insert_entry, is_at}
use Rattle.std.specs.Cmp.Lexicographic.{slice_cmp, nat_list_cmp_total}
use Rattle.std.specs.FinMap as fin
use Rattle.std.specs.FinMap.Entries.{below_all, by_order}
use Rattle.std.specs.List.{AllByRecursion}
use Rattle.std.specs.List.Sorted.{IsStrictlySortedBy}
use Rattle.std.specs.Map.{lookup}
use Rattle.std.specs.Ordering.{eq_by_cmp, match_ordering}
use Rattle.std.proofs.Math.Facts.{yes_and}
use Rattle.lk_types.proofs.LabelMaps.{same_maps}
use Rattle.lk_types.specs.Rows.{label_order}
use Rattle.lk_ground_types.specs.Grounds.{Numbers}

module _ {Z : Type 0} where
  abbrev pub keyed : List (Vec ℕ Z × ℕ) → List (List ℕ × ℕ)
  keyed es = map (λ e. (e.0.items, e.1)) es

  abbrev pub numbers_in : List (Vec ℕ Z × ℕ) → Numbers
  numbers_in es = fin.from_entries (keyed es)

  find_keyed : (x : List ℕ) (es : List (Vec ℕ Z × ℕ)) → fin.find label_order x (keyed es) ≡ lookup (is_at (λ k. slice_cmp nat_cmp x k.items)) es
  find_keyed x [] = refl
  find_keyed x (e ∷ es) = ap (cond (eq_by_cmp label_order x e.0.items) (Some e.1)) (find_keyed x es)

  pub get_is : (m : BTreeMap (Vec ℕ Z) ℕ) (x : List ℕ) → fin.get (numbers_in m.entries) x ≡ get_by (λ k. slice_cmp nat_cmp x k.items) m
  get_is m x = fin.get-from_entries nat_list_cmp_total (keyed m.entries) x ∙ find_keyed x m.entries

  -- ---- one more

  abbrev pub AreAscending : List (Vec ℕ Z × ℕ) → Type 0
  AreAscending es = IsStrictlySortedBy (λ (x y : Vec ℕ Z). slice_cmp nat_cmp x.items y.items) (map (λ e. e.0) es)

  below : (k : Vec ℕ Z) (es : List (Vec ℕ Z × ℕ)) → AllByRecursion (λ (y : Vec ℕ Z). slice_cmp nat_cmp k.items y.items ≡ Less) (map (λ e. e.0) es) → T (below_all label_order k.items (keyed es))
  below k [] a = tt
  below k (e ∷ es) a = subst (λ o. T (is_lt o && below_all label_order k.items (keyed es))) (sym a.0) (below k es a.1)

  sorted_keyed : (es : List (Vec ℕ Z × ℕ)) → AreAscending es → T (fin.is_sorted label_order (keyed es))
  unfolding IsStrictlySortedBy
  sorted_keyed [] s = tt
  sorted_keyed (e ∷ es) s = yes_and _ _ (below e.0 es s.0) (sorted_keyed es s.1)

  put_keyed : (k : Vec ℕ Z) (v : ℕ) (es : List (Vec ℕ Z × ℕ)) → fin.put label_order k.items v (keyed es) ≡ keyed (insert_entry (λ (x y : Vec ℕ Z). slice_cmp nat_cmp x.items y.items) es k v)
  put_keyed k v [] = refl
  put_keyed k v (e ∷ es) =
      elim (slice_cmp nat_cmp k.items e.0.items) as (λ o. by_order o ((k.items, v) ∷ (e.0.items, e.1) ∷ keyed es) ((e.0.items, v) ∷ keyed es) ((e.0.items, e.1) ∷ fin.put label_order k.items v (keyed es))
      ≡ keyed (match_ordering o ((k, v) ∷ e ∷ es) ((e.0, v) ∷ es) (e ∷ insert_entry (λ (x y : Vec ℕ Z). slice_cmp nat_cmp x.items y.items) es k v))) [
        | Less ↦ refl
        | Equal ↦ refl
        | Greater ↦ ap (λ fs. (e.0.items, e.1) ∷ fs) (put_keyed k v es)
      ]

  sorted_is : (es : List (Vec ℕ Z × ℕ)) → AreAscending es → numbers_in es ≡ fin.from_sorted (keyed es)
  sorted_is es s = same_maps (numbers_in es) (fin.from_sorted (keyed es))
      (λ l. fin.get-from_entries nat_list_cmp_total (keyed es) l ∙ sym (fin.get-from_sorted label_order (keyed es) l (sorted_keyed es s)))

  entries_are : (es : List (Vec ℕ Z × ℕ)) → AreAscending es → fin.entries (numbers_in es) ≡ keyed es
  entries_are es s = ap fin.entries (sorted_is es s) ∙ fin.entries-from_sorted label_order (keyed es) (sorted_keyed es s)

  pub put_is : (old new : List (Vec ℕ Z × ℕ)) (k : Vec ℕ Z) (v : ℕ) → AreAscending old → AreAscending new → new ≡ insert_entry (λ (x y : Vec ℕ Z). slice_cmp nat_cmp x.items y.items) old k v
      → numbers_in new ≡ fin.insert (numbers_in old) k.items v
  put_is old new k v a b is =
      fin.same_entries_map (numbers_in new) (fin.insert (numbers_in old) k.items v)
      (entries_are new b ∙ ap keyed is ∙ sym (put_keyed k v old) ∙ ap (fin.put label_order k.items v) (sym (entries_are old a)) ∙ sym (fin.entries-insert nat_list_cmp_total (numbers_in old) k.items v))
