-- Rows with an end that mean something loosely: what one field more becomes.
use Rattle.std.proofs.Common.{◌≡◌, List, [], ◌∷◌, map, refl, sym, ◌∙◌, ap, Some, None, cond}
use Rattle.std.specs.Cmp.Lexicographic.{nat_list_cmp_total}
use Rattle.std.specs.FinMap as fin
use Rattle.std.specs.Ordering.{is_eq}
use Rattle.std.specs.declared.cmp.Ordering.{Ordering}
use Rattle.std.specs.declared.cmp.Ordering.TheVariants.{Less, Equal, Greater}
use Rattle.lk_types.proofs.Rows.{fields_swap}
use Rattle.lk_types.specs.Grounding.{Grounding, Known, before_row, row_tail}
use Rattle.lk_types.specs.Rows.{Label, Row, label_order, with_field}
use Rattle.lk_types.specs.declared.ty.RowTail.{RowTail}
use Rattle.lk_types.specs.declared.ty.Ty.{Ty}
use Rattle.lk_typing.specs.EffectRows.{loosely}
use Rattle.lk_arena.specs.Openings.{OpenRow, field_type, only_tail, row_type}
use Rattle.lk_types.proofs.LabelMaps.{no_entries}
use Rattle.lk_infer.proofs.LooseUnfold.{field_loosely, loosely_row, row_loosely}

module _ (τ : Grounding) where
  abbrev entry_loosely : Label × Ty → Known
  entry_loosely e = (e.0, loosely τ e.1)

  each_entry : (es : List (Label × Ty)) → map (field_loosely τ) (map field_type es) ≡ map entry_loosely es
  each_entry [] = refl
  each_entry (e ∷ es) = λ i. entry_loosely e ∷ each_entry es i

  row_type_loosely : (m : OpenRow) → row_loosely τ (row_type m) ≡ before_row (map entry_loosely (fin.entries m.fields)) (row_tail τ m.tail)
  row_type_loosely m = loosely_row τ (map field_type (fin.entries m.fields)) m.tail ∙ ap (λ fs. before_row fs (row_tail τ m.tail)) (each_entry (fin.entries m.fields))

  pub only_tail_loosely : (tail : RowTail) → row_loosely τ (row_type (only_tail tail)) ≡ Some (row_tail τ tail)
  only_tail_loosely tail = row_type_loosely (only_tail tail) ∙ ap (λ es. before_row (map entry_loosely es) (row_tail τ tail)) no_entries

  abbrev pick : {A : Type 0} → Ordering → A → A → A → A
  pick Less a b c = a
  pick Equal a b c = b
  pick Greater a b c = c

  module _ (l : Label) (t : Ty) (row : Row) where
    none_some : {A : Type 0} (x : A) → Some x ≡ None → ⊥
    none_some x e = cc

    placed : (x : Label × Ty) (es : List (Label × Ty)) (o : Ordering) → cond (is_eq o) (Some x.1) (fin.find label_order l es) ≡ None
        → (fin.find label_order l es ≡ None → before_row (map entry_loosely (fin.put label_order l t es)) row ≡ with_field l (loosely τ t) (before_row (map entry_loosely es) row))
        → before_row (map entry_loosely (pick o ((l, t) ∷ x ∷ es) ((x.0, t) ∷ es) (x ∷ fin.put label_order l t es))) row
        ≡ with_field l (loosely τ t) (before_row (map entry_loosely (x ∷ es)) row)
    placed x es Less e ih = refl
    placed x es Equal e ih = absurd (none_some x.1 e)
    placed x es Greater e ih = ap (with_field x.0 (loosely τ x.1)) (ih e) ∙ fields_swap x.0 l (loosely τ x.1) (loosely τ t) (before_row (map entry_loosely es) row)

    put_loosely : (es : List (Label × Ty)) → fin.find label_order l es ≡ None
        → before_row (map entry_loosely (fin.put label_order l t es)) row ≡ with_field l (loosely τ t) (before_row (map entry_loosely es) row)
    put_loosely [] e = refl
    put_loosely (x ∷ es) e = placed x es (label_order l x.0) e (put_loosely es)

  -- a field that wasn't there
  pub insert_loosely : (m : OpenRow) (l : Label) (t : Ty) → fin.get m.fields l ≡ None
      → row_loosely τ (row_type (record { fields = fin.insert m.fields l t; tail = m.tail })) ≡ with_field l (loosely τ t) (row_loosely τ (row_type m))
  insert_loosely m l t e =
      row_type_loosely (record { fields = fin.insert m.fields l t; tail = m.tail })
      ∙ ap (λ es. before_row (map entry_loosely es) (row_tail τ m.tail)) (fin.entries-insert nat_list_cmp_total m.fields l t)
      ∙ put_loosely l t (row_tail τ m.tail) (fin.entries m.fields) (sym (fin.get-entries m.fields l) ∙ e)
      ∙ ap (with_field l (loosely τ t)) (sym (row_type_loosely m))
