-- Rows and sets of effects with an end, under a grounding: what one field or one effect more becomes, and what a row becomes at
-- each label.
use Rattle.std.proofs.Common.{◌≡◌, Bool, true, false, ⊎_elim, List, [], ◌∷◌, map, refl, sym, ◌∙◌, ap, subst, Option, Some, None, cond}
use Rattle.std.specs.Cmp.Lexicographic.{nat_list_cmp_total}
use Rattle.std.specs.FinMap as fin
use Rattle.std.specs.Ordering.{is_eq}
use Rattle.std.specs.Prelude.{T, is_some, if◌then◌else◌}
use Rattle.std.specs.declared.cmp.Ordering.{Ordering}
use Rattle.std.specs.declared.cmp.Ordering.TheVariants.{Less, Equal, Greater}
use Rattle.lk_types.proofs.Parts.{same_some, row_as_fields, with_one}
use Rattle.lk_types.proofs.Unfold.{under_field}
use Rattle.lk_types.specs.Grounding.{Grounding, Known, under, row_under, field_under, before_row, row_tail}
use Rattle.lk_types.specs.Rows.{Label, Row, label_order, has_label, with_field}
use Rattle.lk_types.specs.declared.ground.Ground.{Ground}
use Rattle.lk_types.specs.declared.ty.RowTail.{RowTail}
use Rattle.lk_types.specs.declared.ty.Ty.{Ty}
use Rattle.lk_types.proofs.LabelMaps.{Tied, Differ, tie_cases, same_maps, get_here, get_there, removed_here, removed_there, insert_swap, find_here, find_there, find_rest, sorted_rest, no_entries}
use Rattle.lk_arena.specs.Openings.{OpenRow, only_tail, field_type, row_type}

-- ---- fields in either order

put_cond : (l : Label) (t : Ground) (b : Bool) (m : Row) → with_field l (Some t) (if b then None else Some m) ≡ (if b then None else with_field l (Some t) (Some m))
put_cond l t true m = refl
put_cond l t false m = refl

either_none : (a b : Bool) (o p : Option Row) → (a ≡ false → b ≡ false → o ≡ p) → (if a then None else (if b then None else o)) ≡ (if b then None else (if a then None else p))
either_none true true o p e = refl
either_none true false o p e = refl
either_none false true o p e = refl
either_none false false o p e = e refl refl

swap_some : (l k : Label) (a b : Ground) (m : Row) → (l ≡ k → ⊥) → with_field l (Some a) (with_field k (Some b) (Some m)) ≡ with_field k (Some b) (with_field l (Some a) (Some m))
swap_some l k a b m n =
    put_cond l a (has_label m k) (fin.insert m k b)
    ∙ ap (λ h. if has_label m k then None else (if h then None else Some (fin.insert (fin.insert m k b) l a))) (ap is_some (get_there m k b l n))
    ∙ either_none (has_label m k) (has_label m l) (Some (fin.insert (fin.insert m k b) l a)) (Some (fin.insert (fin.insert m l a) k b)) (λ _ _. ap Some (insert_swap m l k a b n))
    ∙ sym (put_cond k b (has_label m l) (fin.insert m l a)
    ∙ ap (λ h. if has_label m l then None else (if h then None else Some (fin.insert (fin.insert m l a) k b))) (ap is_some (get_there m l a k (λ e. n (sym e)))))

pub with_field-swap : (l k : Label) (a b : Option Ground) (r : Option Row) → (l ≡ k → ⊥) → with_field l a (with_field k b r) ≡ with_field k b (with_field l a r)
with_field-swap l k None None None n = refl
with_field-swap l k None None (Some m) n = refl
with_field-swap l k None (Some b) None n = refl
with_field-swap l k None (Some b) (Some m) n = refl
with_field-swap l k (Some a) None None n = refl
with_field-swap l k (Some a) None (Some m) n = none_after (has_label m l) (fin.insert m l a)
  where
    none_after : (h : Bool) (x : Row) → None ≡ with_field k None (if h then None else Some x)
    none_after true x = refl
    none_after false x = refl
with_field-swap l k (Some a) (Some b) None n = refl
with_field-swap l k (Some a) (Some b) (Some m) n = swap_some l k a b m n

-- ---- a field more under a grounding

module _ (τ : Grounding) where
  abbrev pub known : Label × Ty → Known
  known e = (e.0, under τ e.1)

  known_fields : (es : List (Label × Ty)) → map (field_under τ) (map field_type es) ≡ map known es
  known_fields [] = refl
  known_fields (e ∷ es) = λ i. under_field τ (field_type e) i ∷ known_fields es i

  pub row_type-under : (m : OpenRow) → row_under τ (row_type m) ≡ before_row (map known (fin.entries m.fields)) (row_tail τ m.tail)
  row_type-under m = row_as_fields τ (map field_type (fin.entries m.fields)) m.tail ∙ ap (λ fs. before_row fs (row_tail τ m.tail)) (known_fields (fin.entries m.fields))

  pub only_tail-under : (tail : RowTail) → row_under τ (row_type (only_tail tail)) ≡ Some (row_tail τ tail)
  only_tail-under tail = row_type-under (only_tail tail) ∙ ap (λ es. before_row (map known es) (row_tail τ tail)) no_entries

  abbrev pick : {A : Type 0} → Ordering → A → A → A → A
  pick Less a b c = a
  pick Equal a b c = b
  pick Greater a b c = c

  module _ (l : Label) (t : Ty) (row : Row) where
    none_some : {A : Type 0} (x : A) → Some x ≡ None → ⊥
    none_some x e = cc

    placed : (x : Label × Ty) (es : List (Label × Ty)) (o : Ordering) → label_order l x.0 ≡ o → cond (is_eq o) (Some x.1) (fin.find label_order l es) ≡ None
        → (fin.find label_order l es ≡ None → before_row (map known (fin.put label_order l t es)) row ≡ with_field l (under τ t) (before_row (map known es) row))
        → before_row (map known (pick o ((l, t) ∷ x ∷ es) ((x.0, t) ∷ es) (x ∷ fin.put label_order l t es))) row ≡ with_field l (under τ t) (before_row (map known (x ∷ es)) row)
    placed x es Less is e ih = refl
    placed x es Equal is e ih = absurd (none_some x.1 e)
    placed x es Greater is e ih =
        ap (with_field x.0 (under τ x.1)) (ih e)
        ∙ with_field-swap x.0 l (under τ x.1) (under τ t) (before_row (map known es) row) (λ same. apart same)
      where
        apart : x.0 ≡ l → ⊥
        apart same = ⊎_elim (λ (h : Tied l x.0). (let f : true ≡ false = sym h.0 ∙ ap is_eq is in cc)) (λ (h : Differ l x.0). h.1 (sym same)) (tie_cases l x.0)

    pub put-under : (es : List (Label × Ty)) → fin.find label_order l es ≡ None → before_row (map known (fin.put label_order l t es)) row ≡ with_field l (under τ t) (before_row (map known es) row)
    put-under [] e = refl
    put-under (x ∷ es) e = placed x es (label_order l x.0) refl e (put-under es)

  -- a field that wasn't there
  pub insert-under : (m : OpenRow) (l : Label) (t : Ty) → fin.get m.fields l ≡ None
      → row_under τ (row_type (record { fields = fin.insert m.fields l t; tail = m.tail })) ≡ with_field l (under τ t) (row_under τ (row_type m))
  insert-under m l t e =
      row_type-under (record { fields = fin.insert m.fields l t; tail = m.tail })
      ∙ ap (λ es. before_row (map known es) (row_tail τ m.tail)) (fin.entries-insert nat_list_cmp_total m.fields l t)
      ∙ put-under l t (row_tail τ m.tail) (fin.entries m.fields) (sym (fin.get-entries m.fields l) ∙ e)
      ∙ ap (with_field l (under τ t)) (sym (row_type-under m))

pub with_new : (l : Label) (t : Ground) (m : Row) → fin.get m l ≡ None → with_field l (Some t) (Some m) ≡ Some (fin.insert m l t)
with_new l t m e = ap (λ o. if is_some o then None else Some (fin.insert m l t)) e

-- ---- what a row becomes at each label

-- a label has what the tail has there, where the row lacks it, and else what its type becomes, where the tail lacks it
abbrev pub IsReadAt : Grounding → Option Ty → Option Ground → Option Ground → Type 0
IsReadAt τ None below x = x ≡ below
IsReadAt τ (Some t) below x = (g : Ground) × (below ≡ None) × (under τ t ≡ Some g) × (x ≡ Some g)

module _ (τ : Grounding) (row : Row) where
  abbrev ReadsTo : List (Label × Ty) → Row → Type 0
  ReadsTo es m = (l : Label) → IsReadAt τ (fin.find label_order l es) (fin.get row l) (fin.get m l)

  -- a label that the longer row lacks is none of the tail's
  lacks_below : (o : Option Ty) (below x : Option Ground) → IsReadAt τ o below x → x ≡ None → below ≡ None
  lacks_below None below x is e = sym is ∙ e
  lacks_below (Some t) below x is e = is.1

  reads-to : (es : List (Label × Ty)) (m : Row) → before_row (map (known τ) es) row ≡ Some m → ReadsTo es m
  reads-to [] m e l = ap (λ r. fin.get r l) (sym (same_some e))
  reads-to (x ∷ es) m e l =
      let w = with_one x.0 (under τ x.1) (before_row (map (known τ) es) row) m e in
      let rest = reads-to es w.1 w.3 in
      ⊎_elim
      (λ (h : Tied l x.0).
      subst (λ o. IsReadAt τ o (fin.get row l) (fin.get m l)) (sym (find_here l x es h.1))
      (w.0, lacks_below (fin.find label_order l es) (fin.get row l) (fin.get w.1 l) (rest l) (ap (fin.get w.1) h.1 ∙ w.4), w.2, ap (λ r. fin.get r l) w.5 ∙ get_here w.1 x.0 w.0 l h.1))
      (λ (h : Differ l x.0).
      subst (λ o. IsReadAt τ o (fin.get row l) (fin.get m l)) (sym (find_there l x es h.1))
      (subst (IsReadAt τ (fin.find label_order l es) (fin.get row l)) (sym (ap (λ r. fin.get r l) w.5 ∙ get_there w.1 x.0 w.0 l h.1)) (rest l)))
      (tie_cases l x.0)

  module _ (x : Label × Ty) (es : List (Label × Ty)) (lone : fin.find label_order x.0 es ≡ None) (m : Row) (reads : ReadsTo (x ∷ es) m) where
    own : IsReadAt τ (Some x.1) (fin.get row x.0) (fin.get m x.0)
    own = subst (λ o. IsReadAt τ o (fin.get row x.0) (fin.get m x.0)) (find_here x.0 x es refl) (reads x.0)

    less : ReadsTo es (fin.remove m x.0)
    less l =
        ⊎_elim
        (λ (h : Tied l x.0).
        subst (λ o. IsReadAt τ o (fin.get row l) (fin.get (fin.remove m x.0) l)) (sym (ap (λ k. fin.find label_order k es) h.1 ∙ lone))
        (removed_here m x.0 l h.1 ∙ sym (ap (fin.get row) h.1 ∙ own.1)))
        (λ (h : Differ l x.0).
        subst (IsReadAt τ (fin.find label_order l es) (fin.get row l)) (sym (removed_there m x.0 l h.1))
        (subst (λ o. IsReadAt τ o (fin.get row l) (fin.get m l)) (find_there l x es h.1) (reads l)))
        (tie_cases l x.0)

    whole : fin.insert (fin.remove m x.0) x.0 own.0 ≡ m
    whole =
        same_maps (fin.insert (fin.remove m x.0) x.0 own.0) m (λ l.
        ⊎_elim
        (λ (h : Tied l x.0). get_here (fin.remove m x.0) x.0 own.0 l h.1 ∙ sym (ap (fin.get m) h.1 ∙ own.3))
        (λ (h : Differ l x.0). get_there (fin.remove m x.0) x.0 own.0 l h.1 ∙ removed_there m x.0 l h.1)
        (tie_cases l x.0))

    step : before_row (map (known τ) es) row ≡ Some (fin.remove m x.0) → before_row (map (known τ) (x ∷ es)) row ≡ Some m
    step e =
        ap (with_field x.0 (under τ x.1)) e ∙ ap (λ o. with_field x.0 o (Some (fin.remove m x.0))) own.2
        ∙ with_new x.0 own.0 (fin.remove m x.0) (removed_here m x.0 x.0 refl) ∙ ap Some whole

  reads-from : (es : List (Label × Ty)) → T (fin.is_sorted label_order es) → (m : Row) → ReadsTo es m → before_row (map (known τ) es) row ≡ Some m
  reads-from [] h m reads = ap Some (same_maps row m (λ l. sym (reads l)))
  reads-from (x ∷ es) h m reads =
      let lone = find_rest x.0 x.1 es h in
      step x es lone m reads (reads-from es (sorted_rest x es h) (fin.remove m x.0) (less x es lone m reads))

-- the row becomes m
pub row_reads : (τ : Grounding) (r : OpenRow) (m : Row) → row_under τ (row_type r) ≡ Some m
    → (l : Label) → IsReadAt τ (fin.get r.fields l) (fin.get (row_tail τ r.tail) l) (fin.get m l)
row_reads τ r m e l =
    subst (λ o. IsReadAt τ o (fin.get (row_tail τ r.tail) l) (fin.get m l)) (sym (fin.get-entries r.fields l))
    (reads-to τ (row_tail τ r.tail) (fin.entries r.fields) m (sym (row_type-under τ r) ∙ e) l)

pub row_read : (τ : Grounding) (r : OpenRow) (m : Row) → ((l : Label) → IsReadAt τ (fin.get r.fields l) (fin.get (row_tail τ r.tail) l) (fin.get m l))
    → row_under τ (row_type r) ≡ Some m
row_read τ r m reads =
    row_type-under τ r ∙ reads-from τ (row_tail τ r.tail) (fin.entries r.fields) (fin.entries_sorted r.fields) m
    (λ l. subst (λ o. IsReadAt τ o (fin.get (row_tail τ r.tail) l) (fin.get m l)) (fin.get-entries r.fields l) (reads l))
