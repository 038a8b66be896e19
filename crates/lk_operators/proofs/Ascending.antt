-- The entries of a `BTreeMap` whose keys are texts, as a finite map.
use Rattle.std.proofs.Common.{◌≡◌, ℕ, ◌&&◌, T, List, [], ◌∷◌, map, length, Less, Equal, Greater, is_lt, nat_cmp, refl, sym, ap, subst, ◌∙◌, String, string_bytes, string_cmp}
use Rattle.std.proofs.lemmas.List.{length-map}
use Rattle.std.specs.BTreeMap.{insert_entry}
use Rattle.std.specs.Cmp.Lexicographic.{slice_cmp, nat_list_cmp_total}
use Rattle.std.specs.FinMap.{FinMap, entries, insert, empty, put, is_sorted, from_sorted, entries-from_sorted, entries-insert, same_entries_map, empty_of_len, len, len-entries}
use Rattle.std.specs.FinMap.Entries.{below_all, by_order}
use Rattle.std.specs.List.{AllByRecursion}
use Rattle.std.specs.List.Sorted.{IsStrictlySortedBy}
use Rattle.std.specs.Ordering.{match_ordering}
use Rattle.std.proofs.Math.Facts.{yes_and}
use Rattle.lk_ast.specs.declared.value.Value.{Value}
use Rattle.lk_operators.specs.Records.{fields_in_order}
use Rattle.lk_operators.specs.Values.{field}

module _ {X Z : Type 0} where
  abbrev pub keyed : String Z × X → List ℕ × X
  keyed e = (string_bytes e.0, e.1)

  abbrev pub AreAscending : List (String Z × X) → Type 0
  AreAscending es = IsStrictlySortedBy string_cmp (map (λ e. e.0) es)

  below : (k : String Z) (es : List (String Z × X)) → AllByRecursion (λ y. string_cmp k y ≡ Less) (map (λ e. e.0) es) → T (below_all (slice_cmp nat_cmp) (string_bytes k) (map keyed es))
  below k [] a = tt
  below k (e ∷ es) a = subst (λ o. T (is_lt o && below_all (slice_cmp nat_cmp) (string_bytes k) (map keyed es))) (sym a.0) (below k es a.1)

  sorted_keyed : (es : List (String Z × X)) → AreAscending es → T (is_sorted (slice_cmp nat_cmp) (map keyed es))
  unfolding IsStrictlySortedBy
  sorted_keyed [] s = tt
  sorted_keyed (e ∷ es) s = yes_and _ _ (below e.0 es s.0) (sorted_keyed es s.1)

  put_keyed : (k : String Z) (v : X) (es : List (String Z × X)) → put (slice_cmp nat_cmp) (string_bytes k) v (map keyed es) ≡ map keyed (insert_entry string_cmp es k v)
  put_keyed k v [] = refl
  put_keyed k v (e ∷ es) =
      elim (string_cmp k e.0) as (λ o. by_order o ((string_bytes k, v) ∷ keyed e ∷ map keyed es) ((string_bytes e.0, v) ∷ map keyed es) (keyed e ∷ put (slice_cmp nat_cmp) (string_bytes k) v (map keyed es)) ≡ map keyed (match_ordering o ((k, v) ∷ e ∷ es) ((e.0, v) ∷ es) (e ∷ insert_entry string_cmp es k v))) [
        | Less ↦ refl
        | Equal ↦ refl
        | Greater ↦ ap (λ fs. keyed e ∷ fs) (put_keyed k v es)
      ]

  abbrev pub finite : List (String Z × X) → FinMap (slice_cmp nat_cmp) X
  finite es = from_sorted (map keyed es)

  pub entries-finite : (es : List (String Z × X)) → AreAscending es → entries (finite es) ≡ map keyed es
  entries-finite es s = entries-from_sorted (slice_cmp nat_cmp) (map keyed es) (sorted_keyed es s)

  pub len-finite : (es : List (String Z × X)) → AreAscending es → length es ≡ len (finite es)
  len-finite es s = sym (len-entries (finite es) ∙ ap length (entries-finite es s) ∙ length-map es keyed)

  pub finite-none : (es : List (String Z × X)) → es ≡ [] → finite es ≡ empty
  finite-none es none = ap finite none ∙ empty_of_len (finite []) (len-entries (finite []) ∙ ap length (entries-from_sorted (slice_cmp nat_cmp) [] tt))

  pub finite-insert : (old new : List (String Z × X)) (k : String Z) (v : X) → AreAscending old → AreAscending new → new ≡ insert_entry string_cmp old k v → finite new ≡ insert (finite old) (string_bytes k) v
  finite-insert old new k v a b is =
      same_entries_map (finite new) (insert (finite old) (string_bytes k) v)
      (entries-finite new b ∙ ap (map keyed) is ∙ sym (put_keyed k v old) ∙ ap (put (slice_cmp nat_cmp) (string_bytes k) v) (sym (entries-finite old a)) ∙ sym (entries-insert nat_list_cmp_total (finite old) (string_bytes k) v))

-- a map's entries as fields, in the same order
entries_as_fields : {Z : Type 0} (es : List (String Z × Value)) → map (λ e. field (string_bytes e.0) e.1) es ≡ map {A = List ℕ × Value} (λ e. field e.0 e.1) (map keyed es)
entries_as_fields [] = refl
entries_as_fields (e ∷ es) = ap (λ fs. field (string_bytes e.0) e.1 ∷ fs) (entries_as_fields es)

pub fields-finite : {Z : Type 0} (es : List (String Z × Value)) → AreAscending es → map (λ e. field (string_bytes e.0) e.1) es ≡ fields_in_order (finite es)
fields-finite es s = entries_as_fields es ∙ ap (map (λ e. field e.0 e.1)) (sym (entries-finite es s))
