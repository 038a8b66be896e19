-- What columns are set to in byte order of the columns: each column is set to the same as in text order, and what holds of all parts
-- holds of them still.
use Rattle.std.proofs.Common.{◌≡◌, refl, sym, ap, ap₂, ◌∙◌, subst, ℕ, Bool, true, false, cond, List, [], ◌∷◌, map, Option, Some, None, bytes_eq, if◌then◌else◌}
use Rattle.std.specs.Cmp.Lexicographic.{nat_list_cmp_total}
use Rattle.std.specs.FinMap as fin
use Rattle.std.specs.FinMap.Entries.{by_order}
use Rattle.std.specs.declared.cmp.Ordering.TheVariants.{Less, Equal, Greater}
use Rattle.lk_ast.specs.declared.table.Base.{Base}
use Rattle.lk_ast.specs.declared.table.Cell.{Cell}
use Rattle.lk_inline.proofs.LabelOrder.{sorted_in_order}
use Rattle.lk_inline.proofs.PutFields.{entry_labels}
use Rattle.lk_inline.specs.Sets.{in_order, parts_by_label}
use Rattle.lk_query.specs.Changed.{given_alone, set_to}
use Rattle.lk_query.specs.Given.{Values, cell_with}
use Rattle.lk_query.specs.Kinds.{AreBasesIn, IsBaseIn, Kind}
use Rattle.lk_query.specs.declared.part.Labelled.{Labelled}
use Rattle.lk_query.specs.declared.part.Part.{Part}
use Rattle.lk_query.specs.declared.query.InlinedChange.{InlinedChange}
use Rattle.lk_sound.proofs.FieldRows.{same_test}
use Rattle.lk_sql.specs.Good.{are_in_order}
use Rattle.lk_types.proofs.LabelMaps.{no_entries}
use Rattle.lk_types.specs.Rows.{Label, label_order}

abbrev item_of : Label × ℕ → Labelled
item_of entry = record { label = entry.0; part = entry.1 }

-- ---- what a column is set to

module _ (parts : List Part) (values : Values) where
  module _ (l : Label) (old : Base) where
    abbrev shown : Option ℕ → Base
    shown None = old
    shown (Some n) = given_alone parts n values

    one_more : (b : Bool) (n : ℕ) (rest : Base) (o : Option ℕ) → rest ≡ shown o → (if b then given_alone parts n values else rest) ≡ shown (cond b (Some n) o)
    one_more true n rest o is = refl
    one_more false n rest o is = is

    by_entries : (es : List (Label × ℕ)) → set_to parts values (map item_of es) l old ≡ shown (fin.find label_order l es)
    by_entries [] = refl
    by_entries (e ∷ es) =
        one_more (bytes_eq e.0 l) e.1 (set_to parts values (map item_of es) l old) (fin.find label_order l es) (by_entries es)
        ∙ ap (λ b. shown (cond b (Some e.1) (fin.find label_order l es))) (sym (same_test l e.0))

    by_map : (items : List Labelled) → set_to parts values items l old ≡ shown (fin.get (parts_by_label items) l)
    by_map [] = ap shown (sym (fin.get-empty label_order l))
    by_map (item ∷ items) =
        one_more (bytes_eq item.label l) item.part (set_to parts values items l old) (fin.get (parts_by_label items) l) (by_map items)
        ∙ ap (λ b. shown (cond b (Some item.part) (fin.get (parts_by_label items) l))) (sym (same_test l item.label))
        ∙ ap shown (sym (fin.get-insert nat_list_cmp_total (parts_by_label items) item.label item.part l))

    set_in_order : (items : List Labelled) → set_to parts values (in_order items) l old ≡ set_to parts values items l old
    set_in_order items = by_entries (fin.entries (parts_by_label items)) ∙ ap shown (sym (fin.get-entries (parts_by_label items) l)) ∙ sym (by_map items)

  -- and so are those of a row
  pub cells_in_order : (items : List Labelled) (cells : List Cell)
      → map (λ (cell : Cell). cell_with cell.label (set_to parts values (in_order items) cell.label cell.value)) cells ≡ map (λ (cell : Cell). cell_with cell.label (set_to parts values items cell.label cell.value)) cells
  cells_in_order items [] = refl
  cells_in_order items (cell ∷ cells) = ap₂ (λ b cs. cell_with cell.label b ∷ cs) (set_in_order cell.label cell.value items) (cells_in_order items cells)

-- ---- parts that give bases

module _ (kinds : ℕ → Kind) (scopes : ℕ → ℕ → Bool) (change : InlinedChange) where
  put_bases : (l : Label) (n : ℕ) → IsBaseIn kinds scopes change n → (es : List (Label × ℕ)) → AreBasesIn kinds scopes change (map item_of es) → AreBasesIn kinds scopes change (map item_of (fin.put label_order l n es))
  put_bases l n one [] are = (one, tt)
  put_bases l n one (e ∷ es) are =
      elim (label_order l e.0) as (λ o. AreBasesIn kinds scopes change (map item_of (by_order o ((l, n) ∷ e ∷ es) ((e.0, n) ∷ es) (e ∷ fin.put label_order l n es)))) [
        | Less ↦ (one, are)
        | Equal ↦ (one, are.1)
        | Greater ↦ (are.0, put_bases l n one es are.1)
      ]

  pub bases_in_order : (items : List Labelled) → AreBasesIn kinds scopes change items → AreBasesIn kinds scopes change (in_order items)
  bases_in_order [] are = subst (λ es. AreBasesIn kinds scopes change (map item_of es)) (sym no_entries) tt
  bases_in_order (item ∷ items) are =
      subst (λ es. AreBasesIn kinds scopes change (map item_of es)) (sym (fin.entries-insert nat_list_cmp_total (parts_by_label items) item.label item.part))
      (put_bases item.label item.part are.0 (fin.entries (parts_by_label items)) (bases_in_order items are.1))

-- ---- their labels

item_labels : (es : List (Label × ℕ)) → map (λ (item : Labelled). item.label) (map item_of es) ≡ entry_labels es
item_labels [] = refl
item_labels (e ∷ es) = ap (λ ls. e.0 ∷ ls) (item_labels es)

pub labels_in_order : (items : List Labelled) → are_in_order (map (λ (item : Labelled). item.label) (in_order items)) ≡ true
labels_in_order items = ap are_in_order (item_labels (fin.entries (parts_by_label items))) ∙ sorted_in_order (fin.entries (parts_by_label items)) (fin.entries_sorted (parts_by_label items))
