-- Fields put into a finite map one by one: what the map has under a label, where no label is there twice.
use Rattle.std.proofs.Common.{◌≡◌, refl, sym, ap, ap₂, subst, ◌∙◌, ℕ, ◌+◌, ◌≤◌, Bool, true, false, cond, T, List, [], ◌∷◌, ◌++◌, map, find, length, Option, Some, None, is_some, inl, inr, if◌then◌else◌, bytes_eq, is_lt, arith}
use Rattle.std.proofs.lemmas.List.Sums.{fold-append}
use Rattle.std.proofs.lemmas.List.{length-append}
use Rattle.std.proofs.lemmas.Slice.Eq.{bytes_eq-Decides}
use Rattle.std.specs.Cmp.Lexicographic.{nat_list_cmp_total}
use Rattle.std.specs.Cmp.{tied_itself}
use Rattle.std.specs.FinMap.Entries.{below_all}
use Rattle.std.specs.FinMap as fin
use Rattle.std.specs.Option.{option_map, option_or}
use Rattle.std.specs.Ordering.{eq_by_cmp, is_eq}
use Rattle.std.specs.declared.cmp.Ordering.TheVariants.{Less, Equal}
use Rattle.lk_ast.specs.declared.table.Cell.{Cell}
use Rattle.lk_ast.specs.declared.value.Field.{Field}
use Rattle.lk_ast.specs.declared.value.Value.TheVariants as value
use Rattle.lk_ast.specs.declared.value.Value.{Value}
use Rattle.lk_inline.specs.Stands.{AreDistinct}
use Rattle.lk_operators.specs.Records as made
use Rattle.lk_operators.specs.Records.{Entries, value_under}
use Rattle.lk_operators.specs.Values as values
use Rattle.lk_query.specs.Given.{cell_or}
use Rattle.lk_sound.proofs.FieldRows.{same_test, less as lower}
use Rattle.lk_sound.proofs.TableRows.{cell_fields}
use Rattle.lk_sql.specs.Meaning.{cell_in}
use Rattle.lk_types.proofs.LabelMaps.{first_holds, second_holds}
use Rattle.lk_types.specs.Each.{Each, OneOf}
use Rattle.lk_types.specs.Rows.{Label, label_order}

-- ---- fields put into a map one by one

put_length : (m : Entries) (f : Field) → fin.len (fin.insert m f.label f.value) ≡ cond (fin.contains_key m f.label) (fin.len m) (fin.len m + 1)
put_length m f = fin.len-insert nat_list_cmp_total m f.label f.value

at_most_one : (b : Bool) (n : ℕ) → cond b n (n + 1) ≤ n + 1
at_most_one true n = omega arith
at_most_one false n = omega arith

-- there are at most as many more entries
at_most : (m : Entries) (fs : List Field) → fin.len (made.with_fields m fs) ≤ fin.len m + length fs
at_most m [] = omega arith
at_most m (f ∷ fs) =
    let one : fin.len (fin.insert m f.label f.value) ≤ fin.len m + 1 = subst (λ n. n ≤ fin.len m + 1) (sym (put_length m f)) (at_most_one (fin.contains_key m f.label) (fin.len m)) in
    let rest : fin.len (made.with_fields (fin.insert m f.label f.value) fs) ≤ fin.len (fin.insert m f.label f.value) + length fs = at_most (fin.insert m f.label f.value) fs in
    omega arith

-- as many more entries, so that no label was there before
abbrev pub AreNew : Entries → List Field → Type 0
AreNew m fs = fin.len (made.with_fields m fs) ≡ fin.len m + length fs

pub put_both : (m : Entries) (fs gs : List Field) → made.with_fields m (fs ++ gs) ≡ made.with_fields (made.with_fields m fs) gs
put_both m fs gs = fold-append _ m fs gs

first_new : (m : Entries) (f : Field) (fs : List Field) → AreNew m (f ∷ fs) → (fin.contains_key m f.label ≡ false) × AreNew (fin.insert m f.label f.value) fs
first_new m f fs are = by_test (fin.contains_key m f.label) refl (put_length m f)
  where
    by_test : (b : Bool) → fin.contains_key m f.label ≡ b → fin.len (fin.insert m f.label f.value) ≡ cond b (fin.len m) (fin.len m + 1) → (fin.contains_key m f.label ≡ false) × AreNew (fin.insert m f.label f.value) fs
    by_test true has long =
        let most : fin.len (made.with_fields (fin.insert m f.label f.value) fs) ≤ fin.len (fin.insert m f.label f.value) + length fs = at_most (fin.insert m f.label f.value) fs in
        let all : fin.len (made.with_fields (fin.insert m f.label f.value) fs) ≡ fin.len m + length (f ∷ fs) = are in
        absurd (omega arith)
    by_test false lacks long =
        let all : fin.len (made.with_fields (fin.insert m f.label f.value) fs) ≡ fin.len m + length (f ∷ fs) = are in
        (lacks, omega arith)

got : (m : Entries) (f : Field) (l : Label) → fin.get (fin.insert m f.label f.value) l ≡ cond (bytes_eq f.label l) (Some f.value) (fin.get m l)
got m f l = fin.get-insert nat_list_cmp_total m f.label f.value l ∙ ap (λ b. cond b (Some f.value) (fin.get m l)) (same_test l f.label)

stays_there : (b : Bool) (v : Value) (o : Option Value) → is_some o ≡ true → is_some (cond b (Some v) o) ≡ true
stays_there true v o has = refl
stays_there false v o has = has

-- what is there already isn't among the new ones
not_new : (m : Entries) (fs : List Field) (l : Label) → AreNew m fs → is_some (fin.get m l) ≡ true → value_under l fs ≡ None
not_new m [] l are has = refl
not_new m (f ∷ fs) l are has =
    let rest : (fin.contains_key m f.label ≡ false) × AreNew (fin.insert m f.label f.value) fs = first_new m f fs are in
    by_test (bytes_eq f.label l) refl rest.0 (not_new (fin.insert m f.label f.value) fs l rest.1 (ap is_some (got m f l) ∙ stays_there (bytes_eq f.label l) f.value (fin.get m l) has))
  where
    by_test : (b : Bool) → bytes_eq f.label l ≡ b → fin.contains_key m f.label ≡ false → value_under l fs ≡ None → option_map (λ (f : Field). f.value) (if b then Some f else find (λ f. bytes_eq f.label l) fs) ≡ None
    by_test true is lacks behind =
        let wrong : true ≡ false = sym has ∙ ap (λ k. fin.contains_key m k) (sym ((bytes_eq-Decides f.label l).0 is)) ∙ lacks in absurd cc
    by_test false is lacks behind = behind

-- under a label there is what was put in under it, or else what was there before
pub got_new : (m : Entries) (fs : List Field) (l : Label) → AreNew m fs → fin.get (made.with_fields m fs) l ≡ option_or (value_under l fs) (fin.get m l)
got_new m [] l are = refl
got_new m (f ∷ fs) l are =
    let rest : (fin.contains_key m f.label ≡ false) × AreNew (fin.insert m f.label f.value) fs = first_new m f fs are in
    got_new (fin.insert m f.label f.value) fs l rest.1 ∙ by_test (bytes_eq f.label l) refl rest.1 (got m f l)
  where
    by_test : (b : Bool) → bytes_eq f.label l ≡ b → AreNew (fin.insert m f.label f.value) fs → fin.get (fin.insert m f.label f.value) l ≡ cond b (Some f.value) (fin.get m l)
        → option_or (value_under l fs) (fin.get (fin.insert m f.label f.value) l) ≡ option_or (option_map (λ (f : Field). f.value) (if b then Some f else find (λ f. bytes_eq f.label l) fs)) (fin.get m l)
    by_test true is new there = ap₂ option_or (not_new (fin.insert m f.label f.value) fs l new (ap is_some there)) there
    by_test false is new there = ap (option_or (value_under l fs)) there

-- ---- the labels of a finite map

abbrev pub entry_labels : {X : Type 0} → List (Label × X) → List Label
entry_labels es = map (λ e. e.0) es

-- a label below all others is none of them
apart : {X : Type 0} (l : Label) (es : List (Label × X)) → T (below_all label_order l es) → OneOf (λ other. other ≡ l) (entry_labels es) → ⊥
apart l [] below one = one
apart l (e ∷ es) below (inl is) = let wrong : Less ≡ Equal = sym (lower _ (first_holds _ _ below)) ∙ ap (label_order l) is ∙ tied_itself nat_list_cmp_total l in cc
apart l (e ∷ es) below (inr one) = apart l es (second_holds _ _ below) one

-- labels in order are distinct
pub sorted_distinct : {X : Type 0} (es : List (Label × X)) → T (fin.is_sorted label_order es) → AreDistinct (entry_labels es)
sorted_distinct [] sorted = tt
sorted_distinct (e ∷ es) sorted = (apart e.0 es (first_holds _ _ sorted), sorted_distinct es (second_holds _ _ sorted))

-- ---- the entries of a map by its labels

not_below : (l k : Label) → T (is_lt (label_order l k)) → eq_by_cmp label_order k l ≡ false
not_below l k below = same_test k l ∙ by_test (bytes_eq l k) refl
  where
    no_less : (l : Label) → T (is_lt (label_order l l)) → ⊥
    no_less l less = subst (λ o. T (is_lt o)) (tied_itself nat_list_cmp_total l) less

    by_test : (b : Bool) → bytes_eq l k ≡ b → b ≡ false
    by_test true is = absurd (no_less l (subst (λ k. T (is_lt (label_order l k))) (sym ((bytes_eq-Decides l k).0 is)) below))
    by_test false is = refl

behind_first : (l : Label) (v : Value) (all es : List (Label × Value)) → T (below_all label_order l es) → Each (λ e. fin.find label_order e.0 all ≡ Some e.1) es → Each (λ e. fin.find label_order e.0 ((l, v) ∷ all) ≡ Some e.1) es
behind_first l v all [] below each = tt
behind_first l v all (e ∷ es) below each =
    (ap (λ b. cond b (Some v) (fin.find label_order e.0 all)) (not_below l e.0 (first_holds _ _ below)) ∙ each.0, behind_first l v all es (second_holds _ _ below) each.1)

pub each_found : (es : List (Label × Value)) → T (fin.is_sorted label_order es) → Each (λ e. fin.find label_order e.0 es ≡ Some e.1) es
each_found [] sorted = tt
each_found (e ∷ es) sorted =
    (ap (λ o. cond (is_eq o) (Some e.1) (fin.find label_order e.0 es)) (tied_itself nat_list_cmp_total e.0), behind_first e.0 e.1 es es (first_holds _ _ sorted) (each_found es (second_holds _ _ sorted)))

-- entries under whose labels there are these bases are the fields of such cells
pub fields_by : (m : Entries) (base_at : Label → Cell) (es : List (Label × Value)) → Each (λ e. fin.find label_order e.0 (fin.entries m) ≡ Some e.1) es
    → ((l : Label) (v : Value) → fin.get m l ≡ Some v → values.field l v ≡ record { label = (base_at l).label; value = value.Base (base_at l).value })
    → map (λ (e : Label × Value). values.field e.0 e.1) es ≡ cell_fields (map base_at (map (λ (e : Label × Value). e.0) es))
fields_by m base_at [] each are = refl
fields_by m base_at (e ∷ es) each are = ap₂ (λ f fs. f ∷ fs) (are e.0 e.1 (fin.get-entries m e.0 ∙ each.0)) (fields_by m base_at es each.1 are)

-- ---- bases under labels

-- the value under a label of the cells, or else of the record
pub found_by : (cells rest : List Cell) (l : Label) (v : Value) → option_or (value_under l (cell_fields cells)) (value_under l (cell_fields rest)) ≡ Some v → v ≡ value.Base (cell_or cells (record { cells = rest }) l)
found_by [] [] l v is = let wrong : None ≡ Some v = is in absurd cc
found_by [] (c ∷ rest) l v is = by_test (bytes_eq c.label l) is (found_by [] rest l v)
  where
    by_test : (b : Bool) → option_map (λ (f : Field). f.value) (if b then Some (record { label = c.label; value = value.Base c.value }) else find (λ (f : Field). bytes_eq f.label l) (cell_fields rest)) ≡ Some v
        → (value_under l (cell_fields rest) ≡ Some v → v ≡ value.Base (cell_in rest l)) → v ≡ value.Base (if b then c.value else cell_in rest l)
    by_test true is behind = let same : Some (value.Base c.value) ≡ Some v = is in cc
    by_test false is behind = behind is
found_by (c ∷ cells) rest l v is = by_test (bytes_eq c.label l) is (found_by cells rest l v)
  where
    by_test : (b : Bool) → option_or (option_map (λ (f : Field). f.value) (if b then Some (record { label = c.label; value = value.Base c.value }) else find (λ (f : Field). bytes_eq f.label l) (cell_fields cells))) (value_under l (cell_fields rest)) ≡ Some v
        → (option_or (value_under l (cell_fields cells)) (value_under l (cell_fields rest)) ≡ Some v → v ≡ value.Base (cell_or cells (record { cells = rest }) l)) → v ≡ value.Base (if b then c.value else cell_or cells (record { cells = rest }) l)
    by_test true is behind = let same : Some (value.Base c.value) ≡ Some v = is in cc
    by_test false is behind = behind is

pub or_none : (o : Option Value) → option_or o None ≡ o
or_none None = refl
or_none (Some v) = refl

-- of fields one behind the other both are new
pub split_new : (m : Entries) (fs gs : List Field) → AreNew m (fs ++ gs) → AreNew m fs × AreNew (made.with_fields m fs) gs
split_new m fs gs are =
    let whole : fin.len (made.with_fields (made.with_fields m fs) gs) ≡ fin.len m + length (fs ++ gs) = ap fin.len (sym (put_both m fs gs)) ∙ are in
    let long : length (fs ++ gs) ≡ length fs + length gs = length-append fs gs in
    let first : fin.len (made.with_fields m fs) ≤ fin.len m + length fs = at_most m fs in
    let second : fin.len (made.with_fields (made.with_fields m fs) gs) ≤ fin.len (made.with_fields m fs) + length gs = at_most (made.with_fields m fs) gs in
    (omega arith, omega arith)
