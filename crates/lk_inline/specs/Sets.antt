-- What columns are set to, in byte order of the columns.
use Rattle.std.specs.Prelude.{ℕ, List, [], ◌∷◌, map}
use Rattle.std.specs.Cmp.Lexicographic.{slice_cmp}
use Rattle.std.specs.FinMap as finite
use Rattle.std.specs.Ordering.{nat_cmp}
use Rattle.lk_query.specs.declared.part.Labelled.{Labelled}

-- the parts by the labels that they are under; of two with one label the first counts
abbrev pub parts_by_label : List Labelled → finite.FinMap (slice_cmp nat_cmp) ℕ
parts_by_label [] = finite.empty
parts_by_label (item ∷ items) = finite.insert (parts_by_label items) item.label item.part

abbrev pub items_of : finite.FinMap (slice_cmp nat_cmp) ℕ → List Labelled
items_of found = map (λ entry. record { label = entry.0; part = entry.1 }) (finite.entries found)

-- in byte order of the labels
abbrev pub in_order : List Labelled → List Labelled
in_order items = items_of (parts_by_label items)
