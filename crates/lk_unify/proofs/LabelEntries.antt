-- The entries of maps from labels, as those of finite maps and as fields in order.
use Rattle.std.proofs.Common.{◌≡◌, ℕ, T, List, [], ◌∷◌, map, length, Less, Equal, Greater, is_lt, ◌&&◌, refl, sym, ap, subst, ◌∙◌}
use Rattle.std.specs.BTreeMap.{insert_entry}
use Rattle.std.specs.Cmp.Lexicographic.{nat_list_cmp_total}
use Rattle.std.specs.FinMap as fin
use Rattle.std.specs.FinMap.Entries.{below_all, by_order}
use Rattle.std.specs.List.{AllByRecursion}
use Rattle.std.specs.List.Sorted.{IsStrictlySortedBy}
use Rattle.std.specs.Ordering.{match_ordering}
use Rattle.std.proofs.Math.Facts.{yes_and}
use Rattle.lk_types.specs.Rows.{Label, label_order}
use Rattle.lk_types.specs.declared.ty.Ty.{Ty}
use Rattle.lk_types.specs.declared.ty.TyField.{TyField}
use Rattle.lk_arena.specs.Openings.{field_type}
use Rattle.lk_types.specs.declared.levels.LevelField.{LevelField}
use Rattle.lk_unify.specs.Levels.{place_field}

module _ {X : Type 0} where
  abbrev AreAscending : List (Label × X) → Type 0
  AreAscending es = IsStrictlySortedBy label_order (map (λ e. e.0) es)

  below : (k : Label) (es : List (Label × X)) → AllByRecursion (λ y. label_order k y ≡ Less) (map (λ e. e.0) es) → T (below_all label_order k es)
  below k [] a = tt
  below k (e ∷ es) a = subst (λ o. T (is_lt o && below_all label_order k es)) (sym a.0) (below k es a.1)

  sorted : (es : List (Label × X)) → AreAscending es → T (fin.is_sorted label_order es)
  unfolding IsStrictlySortedBy
  sorted [] s = tt
  sorted (e ∷ es) s = yes_and _ _ (below e.0 es s.0) (sorted es s.1)

  put_is : (k : Label) (v : X) (es : List (Label × X)) → fin.put label_order k v es ≡ insert_entry label_order es k v
  put_is k v [] = refl
  put_is k v (e ∷ es) =
      elim (label_order k e.0) as (λ o. by_order o ((k, v) ∷ e ∷ es) ((e.0, v) ∷ es) (e ∷ fin.put label_order k v es)
      ≡ match_ordering o ((k, v) ∷ e ∷ es) ((e.0, v) ∷ es) (e ∷ insert_entry label_order es k v)) [
        | Less ↦ refl
        | Equal ↦ refl
        | Greater ↦ ap (λ fs. e ∷ fs) (put_is k v es)
      ]

  abbrev made_in : List (Label × X) → fin.FinMap label_order X
  made_in es = fin.from_sorted es

  entries_made : (es : List (Label × X)) → AreAscending es → fin.entries (made_in es) ≡ es
  entries_made es s = fin.entries-from_sorted label_order es (sorted es s)

  pub none_made : (es : List (Label × X)) → es ≡ [] → made_in es ≡ fin.empty
  none_made es none = ap made_in none ∙ fin.empty_of_len (made_in []) (fin.len-entries (made_in []) ∙ ap length (fin.entries-from_sorted label_order [] tt))

  pub put_made : (old new : List (Label × X)) (k : Label) (v : X) → AreAscending old → AreAscending new → new ≡ insert_entry label_order old k v → made_in new ≡ fin.insert (made_in old) k v
  put_made old new k v a b is =
      fin.same_entries_map (made_in new) (fin.insert (made_in old) k v)
      (entries_made new b ∙ is ∙ sym (put_is k v old) ∙ ap (fin.put label_order k v) (sym (entries_made old a)) ∙ sym (fin.entries-insert nat_list_cmp_total (made_in old) k v))

-- an entry as a field
abbrev pub entry_field : Label × Ty → TyField
entry_field e = record { label = e.0; ty = e.1 }

as_fields : (es : List (Label × Ty)) → map entry_field es ≡ map field_type es
as_fields [] = refl
as_fields (e ∷ es) = ap (λ fs. entry_field e ∷ fs) (as_fields es)

pub fields_made : (es : List (Label × Ty)) → AreAscending es → map entry_field es ≡ map field_type (fin.entries (made_in es))
fields_made es s = as_fields es ∙ ap (map field_type) (sym (entries_made es s))

-- an entry as a field of a level
abbrev pub entry_place : Label × ℕ → LevelField
entry_place e = record { label = e.0; part = e.1 }

as_places : (es : List (Label × ℕ)) → map entry_place es ≡ map place_field es
as_places [] = refl
as_places (e ∷ es) = ap (λ fs. entry_place e ∷ fs) (as_places es)

pub places_made : (es : List (Label × ℕ)) → AreAscending es → map entry_place es ≡ map place_field (fin.entries (made_in es))
places_made es s = as_places es ∙ ap (map place_field) (sym (entries_made es s))
