-- Rows with fields before them: no label twice, and the order of fields says nothing.
use Rattle.std.proofs.Common.{◌≡◌, Bool, true, false, cond, ◌||◌, refl, sym, ap, ◌∙◌, Option, Some, None, is_some, if◌then◌else◌}
use Rattle.std.proofs.lemmas.Bool.{or_from, or_right, or_left}
use Rattle.std.proofs.lemmas.Cmp.{nat_list_cmp_total}
use Rattle.std.specs.Cmp.{eq_by_cmp_equiv}
use Rattle.std.specs.FinMap as fin
use Rattle.std.specs.Ordering.{eq_by_cmp}
use Rattle.lk_types.specs.Rows.{Label, Row, label_order, has_label, with_field}
use Rattle.lk_types.specs.declared.ground.Ground.{Ground}

abbrev pub same_label : Label → Label → Bool
same_label l m = eq_by_cmp label_order l m

same_turned : (l m : Label) → same_label l m ≡ same_label m l
same_turned l m = (eq_by_cmp_equiv nat_list_cmp_total).symm l m

same_self : (l : Label) → same_label l l ≡ true
same_self l = (eq_by_cmp_equiv nat_list_cmp_total).refl l

pub found : (row : Row) (m : Label) (u : Ground) (l : Label) → has_label (fin.insert row m u) l ≡ (same_label l m || has_label row l)
found row m u l = ap is_some (fin.get-insert nat_list_cmp_total row m u l) ∙ by_test (same_label l m) (fin.get row l)
  where
    by_test : (b : Bool) (o : Option Ground) → is_some (cond b (Some u) o) ≡ (b || is_some o)
    by_test true o = refl
    by_test false o = refl

-- ---- no label twice

pub field_twice : (l : Label) (t u : Option Ground) (row : Option Row) → with_field l t (with_field l u row) ≡ None
field_twice l None u row = refl
field_twice l (Some t) None row = refl
field_twice l (Some t) (Some u) None = refl
field_twice l (Some t) (Some u) (Some row) = by_test (has_label row l)
  where
    by_test : (b : Bool) → with_field l (Some t) (if b then None else Some (fin.insert row l u)) ≡ None
    by_test true = refl
    by_test false = ap (λ b. if b then None else Some (fin.insert (fin.insert row l u) l t)) (found row l u l ∙ ap (λ b. b || has_label row l) (same_self l))

-- ---- any order

inserted : (l m : Label) (t u : Ground) (row : Row) → same_label l m ≡ false → fin.insert (fin.insert row m u) l t ≡ fin.insert (fin.insert row l t) m u
inserted l m t u row apart = fin.same_map nat_list_cmp_total (fin.slice_cmp-IsAntisymmetric fin.nat_cmp-IsAntisymmetric) _ _ (λ q.
    fin.get-insert nat_list_cmp_total (fin.insert row m u) l t q
    ∙ ap (cond (same_label q l) (Some t)) (fin.get-insert nat_list_cmp_total row m u q)
    ∙ by_tests (same_label q l) (same_label q m) (fin.get row q) (at_most_one q)
    ∙ sym (fin.get-insert nat_list_cmp_total (fin.insert row l t) m u q ∙ ap (cond (same_label q m) (Some u)) (fin.get-insert nat_list_cmp_total row l t q)))
  where
    at_most_one : (q : Label) → same_label q l ≡ true → same_label q m ≡ false
    at_most_one q is = (eq_by_cmp_equiv nat_list_cmp_total).congr q l m is ∙ apart

    by_tests : (a b : Bool) (o : Option Ground) → (a ≡ true → b ≡ false) → cond a (Some t) (cond b (Some u) o) ≡ cond b (Some u) (cond a (Some t) o)
    by_tests true true o one = let wrong : true ≡ false = one refl in cc
    by_tests true false o one = refl
    by_tests false true o one = refl
    by_tests false false o one = refl

with_both : (l m : Label) (t u : Ground) (row : Row) → Option Row
with_both l m t u row = if has_label (fin.insert row m u) l then None else Some (fin.insert (fin.insert row m u) l t)

none_both : (l m : Label) (t u : Ground) (row : Row) → (same_label l m || has_label row l) ≡ true → with_both l m t u row ≡ None
unfolding with_both
none_both l m t u row there = ap (λ b. if b then None else Some (fin.insert (fin.insert row m u) l t)) (found row m u l ∙ there)

some_both : (l m : Label) (t u : Ground) (row : Row) → (same_label l m || has_label row l) ≡ false → with_both l m t u row ≡ Some (fin.insert (fin.insert row m u) l t)
unfolding with_both
some_both l m t u row missing = ap (λ b. if b then None else Some (fin.insert (fin.insert row m u) l t)) (found row m u l ∙ missing)

both_swap : (l m : Label) (t u : Ground) (row : Row) → has_label row l ≡ false → has_label row m ≡ false → (same : Bool) → same_label l m ≡ same → with_both l m t u row ≡ with_both m l u t row
both_swap l m t u row p q true is = none_both l m t u row (or_left _ _ is) ∙ sym (none_both m l u t row (or_left _ _ (same_turned m l ∙ is)))
both_swap l m t u row p q false is =
    some_both l m t u row (or_from _ _ is p) ∙ ap Some (inserted l m t u row is) ∙ sym (some_both m l u t row (or_from _ _ (same_turned m l ∙ is) q))

pub fields_swap : (l m : Label) (t u : Option Ground) (row : Option Row) → with_field l t (with_field m u row) ≡ with_field m u (with_field l t row)
unfolding with_both
fields_swap l m None None row = refl
fields_swap l m None (Some u) row = refl
fields_swap l m (Some t) None row = refl
fields_swap l m (Some t) (Some u) None = refl
fields_swap l m (Some t) (Some u) (Some row) = by_tests (has_label row l) (has_label row m) refl refl
  where
    by_tests : (a b : Bool) → has_label row l ≡ a → has_label row m ≡ b
        → with_field l (Some t) (if b then None else Some (fin.insert row m u)) ≡ with_field m (Some u) (if a then None else Some (fin.insert row l t))
    by_tests true true p q = refl
    by_tests true false p q = none_both l m t u row (or_right _ _ p)
    by_tests false true p q = sym (none_both m l u t row (or_right _ _ q))
    by_tests false false p q = both_swap l m t u row p q _ refl
