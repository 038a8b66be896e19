-- What columns are set to, by a map from their labels in ascending order.
use Rattle.std.proofs.Common.{◌≡◌, ℕ, List, [], ◌∷◌, ◌++◌, map, nat_cmp, refl, sym, ap, ◌∙◌, String, string_bytes}
use Rattle.std.specs.Cmp.Lexicographic.{slice_cmp}
use Rattle.std.specs.FinMap.{FinMap, insert, empty}
use Rattle.lk_inline.specs.Sets.{items_of, parts_by_label}
use Rattle.lk_operators.proofs.Ascending.{AreAscending, entries-finite, finite, keyed}
use Rattle.lk_query.specs.declared.part.Labelled.{Labelled}

-- an entry of a map as what a column is set to
abbrev pub item : {Z : Type 0} → String Z × ℕ → Labelled
item e = record { label = string_bytes e.0; part = e.1 }

entries_as_items : {Z : Type 0} (es : List (String Z × ℕ)) → map item es ≡ map {A = List ℕ × ℕ} (λ entry. record { label = entry.0; part = entry.1 }) (map keyed es)
entries_as_items [] = refl
entries_as_items (e ∷ es) = ap (λ items. item e ∷ items) (entries_as_items es)

pub items-finite : {Z : Type 0} (es : List (String Z × ℕ)) → AreAscending es → map item es ≡ items_of (finite es)
items-finite es s = entries_as_items es ∙ ap (map (λ entry. record { label = entry.0; part = entry.1 })) (sym (entries-finite es s))

-- parts put in before what is there, the last of them first
abbrev pub put_all : List Labelled → FinMap (slice_cmp nat_cmp) ℕ → FinMap (slice_cmp nat_cmp) ℕ
put_all [] found = found
put_all (item ∷ items) found = insert (put_all items found) item.label item.part

pub put_last : (items left : List Labelled) (item : Labelled) (found : FinMap (slice_cmp nat_cmp) ℕ) → items ≡ left ++ item ∷ [] → put_all left (insert found item.label item.part) ≡ put_all items found
put_last items left item found is = at_end left ∙ ap (λ all. put_all all found) (sym is)
  where
    at_end : (left : List Labelled) → put_all left (insert found item.label item.part) ≡ put_all (left ++ item ∷ []) found
    at_end [] = refl
    at_end (other ∷ left) = ap (λ m. insert m other.label other.part) (at_end left)

pub put_onto_none : (items : List Labelled) → put_all items empty ≡ parts_by_label items
put_onto_none [] = refl
put_onto_none (item ∷ items) = ap (λ m. insert m item.label item.part) (put_onto_none items)
