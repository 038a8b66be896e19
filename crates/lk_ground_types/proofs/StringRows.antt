-- The entries of a map from texts to numbers, as a row.
use Rattle.std.proofs.Common.{◌≡◌, ◌⊎◌, inl, inr, ℕ, ◌&&◌, T, cond, List, [], ◌∷◌, map, Less, is_lt, refl, sym, ap, subst, ◌∙◌, String, string_bytes, string_cmp, Option, Some, None, rules}
use Rattle.std.proofs.lemmas.Cmp.{nat_list_cmp_total}
use Rattle.std.proofs.lemmas.Map.Text.{btree_map_updates_text, is_eq-slice_cmp}
use Rattle.std.specs.BTreeMap.{BTreeMap, UpdatesBy, get_by_text, is_at}
use Rattle.std.specs.Cmp.Lexicographic.{slice_cmp}
use Rattle.std.specs.FinMap as fin
use Rattle.std.specs.FinMap.Entries.{below_all}
use Rattle.std.specs.List.{AllByRecursion}
use Rattle.std.specs.List.Sorted.{IsStrictlySortedBy}
use Rattle.std.specs.Map.{lookup}
use Rattle.std.specs.Option.{option_or}
use Rattle.std.specs.Ordering.{nat_cmp, eq_by_cmp}
use Rattle.std.specs.Str.{bytes_eq}
use Rattle.std.proofs.Math.Facts.{yes_and}
use Rattle.lk_types.proofs.LabelMaps.{Differ, Tied, entries_back, find_here, find_rest, find_there, get_here, get_there, same_maps, sorted_rest, tie_cases}
use Rattle.lk_types.specs.Rows.{Label, label_order}
use Rattle.lk_ground_types.specs.Grounds.{Parts, parts_in}
use Rattle.lk_ground_types.specs.declared.ground_level.GroundPart.{GroundPart}

turned : (xs ys : List ℕ) → bytes_eq xs ys ≡ bytes_eq ys xs
turned xs ys = search rules

abbrev pub part : Label → ℕ → GroundPart
part l n = record { label = l; part = n }

-- ---- one after the other

abbrev pub put_all : Parts → List (Label × ℕ) → Parts
put_all m [] = m
put_all m (e ∷ es) = put_all (fin.insert m e.0 e.1) es

or_none : (o : Option ℕ) → option_or o None ≡ o
or_none None = refl
or_none (Some t) = refl

get_all : (m : Parts) (es : List (Label × ℕ)) → T (fin.is_sorted label_order es) → (q : Label) → fin.get (put_all m es) q ≡ option_or (fin.find label_order q es) (fin.get m q)
get_all m [] s q = refl
get_all m (e ∷ es) s q = get_all (fin.insert m e.0 e.1) es (sorted_rest e es s) q ∙ by_case (tie_cases q e.0)
  where
    by_case : Tied q e.0 ⊎ Differ q e.0 → option_or (fin.find label_order q es) (fin.get (fin.insert m e.0 e.1) q) ≡ option_or (fin.find label_order q (e ∷ es)) (fin.get m q)
    by_case (inl tied) =
        (λ i. option_or ((ap (λ l. fin.find label_order l es) tied.1 ∙ find_rest e.0 e.1 es s) i) (get_here m e.0 e.1 q tied.1 i))
        ∙ ap (λ o. option_or o (fin.get m q)) (sym (find_here q e es tied.1))
    by_case (inr differ) =
        (λ i. option_or (sym (find_there q e es differ.1) i) (get_there m e.0 e.1 q differ.1 i))

module _ {Z : Type 0} where
  abbrev pub keyed : List (String Z × ℕ) → List (Label × ℕ)
  keyed es = map (λ e. (string_bytes e.0, e.1)) es

  abbrev pub row_of : List (String Z × ℕ) → Parts
  row_of es = fin.from_entries (keyed es)

  find_keyed : (x : Label) (es : List (String Z × ℕ)) → fin.find label_order x (keyed es) ≡ lookup (is_at (λ k. slice_cmp nat_cmp x (string_bytes k))) es
  find_keyed x [] = refl
  find_keyed x (e ∷ es) = ap (cond (eq_by_cmp label_order x (string_bytes e.0)) (Some e.1)) (find_keyed x es)

  pub get_is : (m : BTreeMap (String Z) ℕ) (x : Label) → fin.get (row_of m.entries) x ≡ get_by_text m x
  get_is m x = fin.get-from_entries nat_list_cmp_total (keyed m.entries) x ∙ find_keyed x m.entries

  abbrev Updated : BTreeMap (String Z) ℕ → BTreeMap (String Z) ℕ → Label → Option ℕ → Type 0
  Updated old new x w = UpdatesBy string_cmp (λ k. slice_cmp nat_cmp x (string_bytes k)) old new w

  get_updated : (old new : BTreeMap (String Z) ℕ) (x : Label) (w : Option ℕ) → Updated old new x w → (q : Label) → get_by_text new q ≡ cond (eq_by_cmp label_order q x) w (get_by_text old q)
  get_updated old new x w updates q =
      btree_map_updates_text x old new w updates q ∙ ap (λ b. cond b w (get_by_text old q)) (turned x q ∙ sym (is_eq-slice_cmp q x))

  pub put_is : (old new : BTreeMap (String Z) ℕ) (x : Label) (n : ℕ) → Updated old new x (Some n) → row_of new.entries ≡ fin.insert (row_of old.entries) x n
  put_is old new x n updates = same_maps (row_of new.entries) (fin.insert (row_of old.entries) x n) (λ q.
      get_is new q ∙ get_updated old new x (Some n) updates q
      ∙ ap (cond (eq_by_cmp label_order q x) (Some n)) (sym (get_is old q))
      ∙ sym (fin.get-insert nat_list_cmp_total (row_of old.entries) x n q))

  pub take_is : (old new : BTreeMap (String Z) ℕ) (x : Label) → Updated old new x None → row_of new.entries ≡ fin.remove (row_of old.entries) x
  take_is old new x updates = same_maps (row_of new.entries) (fin.remove (row_of old.entries) x) (λ q.
      get_is new q ∙ get_updated old new x None updates q
      ∙ ap (cond (eq_by_cmp label_order q x) None) (sym (get_is old q))
      ∙ sym (fin.get-remove nat_list_cmp_total (row_of old.entries) x q))

  pub none_in : (es : List (String Z × ℕ)) → es ≡ [] → row_of es ≡ fin.empty
  none_in es none = ap row_of none ∙ same_maps (row_of []) fin.empty (λ l. fin.get-from_entries nat_list_cmp_total [] l ∙ sym (fin.get-empty label_order l))

  -- ---- entries in order

  abbrev pub AreAscending : List (String Z × ℕ) → Type 0
  AreAscending es = IsStrictlySortedBy string_cmp (map (λ e. e.0) es)

  below : (k : String Z) (es : List (String Z × ℕ)) → AllByRecursion (λ y. string_cmp k y ≡ Less) (map (λ e. e.0) es) → T (below_all label_order (string_bytes k) (keyed es))
  below k [] a = tt
  below k (e ∷ es) a = subst (λ o. T (is_lt o && below_all label_order (string_bytes k) (keyed es))) (sym a.0) (below k es a.1)

  sorted_keyed : (es : List (String Z × ℕ)) → AreAscending es → T (fin.is_sorted label_order (keyed es))
  unfolding IsStrictlySortedBy
  sorted_keyed [] s = tt
  sorted_keyed (e ∷ es) s = yes_and _ _ (below e.0 es s.0) (sorted_keyed es s.1)

  as_parts : (es : List (String Z × ℕ)) → map (λ e. part (string_bytes e.0) e.1) es ≡ map {A = Label × ℕ} (λ e. part e.0 e.1) (keyed es)
  as_parts [] = refl
  as_parts (e ∷ es) = ap (λ ps. part (string_bytes e.0) e.1 ∷ ps) (as_parts es)

  pub parts_made : (es : List (String Z × ℕ)) → AreAscending es → map (λ e. part (string_bytes e.0) e.1) es ≡ parts_in (row_of es)
  parts_made es s = as_parts es ∙ ap (map (λ e. part e.0 e.1)) (sym (entries_back (keyed es) (sorted_keyed es s)))

  pub all_put : (es : List (String Z × ℕ)) → AreAscending es → put_all fin.empty (keyed es) ≡ row_of es
  all_put es s = same_maps (put_all fin.empty (keyed es)) (row_of es) (λ q.
      get_all fin.empty (keyed es) (sorted_keyed es s) q
      ∙ ap (option_or (fin.find label_order q (keyed es))) (fin.get-empty label_order q)
      ∙ or_none (fin.find label_order q (keyed es))
      ∙ sym (fin.get-from_entries nat_list_cmp_total (keyed es) q))
