-- Columns that make a row, from the last to the first.
use Rattle.std.proofs.Common.{◌≡◌, ◌∙◌, refl, sym, ap, subst, ℕ, Bool, true, false, cond, List, [], ◌∷◌, ◌++◌, map, Option, Some, None, is_some, rules}
use Rattle.std.proofs.lemmas.Cmp.{nat_list_cmp_total}
use Rattle.std.proofs.lemmas.Map.Text.{btree_map_updates_str, is_eq-slice_cmp}
use Rattle.std.specs.BTreeMap.{BTreeMap, UpdatesBy, get_by, is_at}
use Rattle.std.specs.Cmp.Lexicographic.{slice_cmp}
use Rattle.std.specs.FinMap as finite
use Rattle.std.specs.Map.{lookup}
use Rattle.std.specs.Ordering.{nat_cmp}
use Rattle.std.specs.Str.{bytes_eq}
use Rattle.lk_ast.specs.declared.declaration.ColumnDecl.{ColumnDecl}
use Rattle.lk_ast.specs.declared.table.BaseKind.{BaseKind}
use Rattle.lk_types.specs.Grounding.{Known, before_row}
use Rattle.lk_types.specs.Rows.{Label, Row, has_label, label_order, no_fields, with_field}
use Rattle.lk_typing.specs.Names.{column}
use denote.Ref.{Bor}

-- columns as fields of a row
abbrev pub known : List ColumnDecl → List Known
known columns = map (λ f. (f.0, Some f.1)) (map column columns)

abbrev pub Seen : Type 0
Seen = BTreeMap (Bor (List ℕ)) BaseKind

-- whether a label was seen
abbrev pub is_seen : Seen → Label → Bool
is_seen seen x = is_some (get_by (λ k. slice_cmp nat_cmp x k.now) seen)

-- what is left of all columns comes before a row with the labels that were seen
pub record AreLeft (seen : Seen) (left all : List ColumnDecl) : Type 0 where
  pub row : Row
  pub labels : (x : Label) → is_seen seen x ≡ has_label row x
  pub same : before_row (known left) row ≡ before_row (known all) no_fields

pub none_seen : (seen : Seen) (left all : List ColumnDecl) → seen.entries ≡ [] → left ≡ all → AreLeft seen left all
none_seen seen left all none is = record {
  row = no_fields;
  labels = λ x. ap (λ es. is_some (lookup (is_at (λ k. slice_cmp nat_cmp x k.now)) es)) none ∙ sym (ap is_some (finite.get-empty label_order x));
  same = ap (λ columns. before_row (known columns) no_fields) is;
}

-- ---- a column before the row

not_there : (outer : List ColumnDecl) (c : ColumnDecl) (row : Row) → has_label row c.label.text ≡ false
    → before_row (known (outer ++ c ∷ [])) row ≡ before_row (known outer) (finite.insert row c.label.text (column c).1)
not_there [] c row absent = ap (λ b. cond b None (Some (finite.insert row c.label.text (column c).1))) absent
not_there (o ∷ outer) c row absent = ap (with_field o.label.text (Some (column o).1)) (not_there outer c row absent)

there : (outer : List ColumnDecl) (c : ColumnDecl) (row : Row) → has_label row c.label.text ≡ true → before_row (known (outer ++ c ∷ [])) row ≡ None
there [] c row is = ap (λ b. cond b None (Some (finite.insert row c.label.text (column c).1))) is
there (o ∷ outer) c row is = ap (with_field o.label.text (Some (column o).1)) (there outer c row is)

-- ---- the labels that were seen, and one more

bytes_eq-swapped : (xs ys : List ℕ) → bytes_eq xs ys ≡ bytes_eq ys xs
bytes_eq-swapped xs ys = search rules

both_have : {A B : Type 0} (b : Bool) (v : A) (t : B) (p : Option A) (q : Option B) → is_some p ≡ is_some q → is_some (cond b (Some v) p) ≡ is_some (cond b (Some t) q)
both_have true v t p q same = refl
both_have false v t p q same = same

one_more : {old new : Seen} {left all : List ColumnDecl} (outer : List ColumnDecl) (c : ColumnDecl)
    → AreLeft old left all → left ≡ outer ++ c ∷ [] → is_seen old c.label.text ≡ false
    → UpdatesBy (λ j k. slice_cmp nat_cmp j.now k.now) (λ k. slice_cmp nat_cmp c.label.text k.now) old new (Some c.kind)
    → AreLeft new outer all
one_more {old} {new} {left} {all} outer c are is absent updates =
    let l : Label = c.label.text in
    record {
      row = finite.insert are.row l (column c).1;
      labels = λ x.
          ap is_some (btree_map_updates_str l old new (Some c.kind) updates x)
          ∙ both_have (bytes_eq l x) c.kind (column c).1 (get_by (λ k. slice_cmp nat_cmp x k.now) old) (finite.get are.row x) (are.labels x)
          ∙ ap (λ b. is_some (cond b (Some (column c).1) (finite.get are.row x))) (bytes_eq-swapped l x ∙ sym (is_eq-slice_cmp x l))
          ∙ sym (ap is_some (finite.get-insert nat_list_cmp_total are.row l (column c).1 x));
      same = sym (not_there outer c are.row (sym (are.labels l) ∙ absent)) ∙ ap (λ columns. before_row (known columns) are.row) (sym is) ∙ are.same;
    }

-- the label as a text that is equal to it
pub one_more_text : {old new : Seen} {left all : List ColumnDecl} (outer : List ColumnDecl) (c : ColumnDecl) (l : Label) → l ≡ c.label.text
    → AreLeft old left all → left ≡ outer ++ c ∷ [] → is_seen old l ≡ false
    → UpdatesBy (λ j k. slice_cmp nat_cmp j.now k.now) (λ k. slice_cmp nat_cmp l k.now) old new (Some c.kind)
    → AreLeft new outer all
one_more_text {old} {new} {left} {all} outer c l same are is = subst
    (λ (m : Label). is_seen old m ≡ false → UpdatesBy (λ j k. slice_cmp nat_cmp j.now k.now) (λ k. slice_cmp nat_cmp m k.now) old new (Some c.kind) → AreLeft new outer all)
    (sym same) (one_more outer c are is)

pub twice_there : {old : Seen} {left all : List ColumnDecl} (outer : List ColumnDecl) (c : ColumnDecl) (l : Label) → l ≡ c.label.text
    → AreLeft old left all → left ≡ outer ++ c ∷ [] → is_seen old l ≡ true → false ≡ is_some (before_row (known all) no_fields)
twice_there {old} outer c l same are is present =
    ap is_some (sym (there outer c are.row (sym (are.labels c.label.text) ∙ ap (is_seen old) (sym same) ∙ present)) ∙ ap (λ columns. before_row (known columns) are.row) (sym is) ∙ are.same)
