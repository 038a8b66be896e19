-- Fields before a row: what a row becomes (`before_open`) is what the nodes of its fields and of its end say.
use Rattle.std.proofs.Common.{◌≡◌, ℕ, Bool, true, false, ⊎_elim, List, [], ◌∷◌, Option, Some, None, refl, sym, ◌∙◌, ap, subst, cond}
use Rattle.std.specs.Cmp.Lexicographic.{nat_list_cmp_total, bytes_decides}
use Rattle.std.specs.FinMap as fin
use Rattle.std.specs.Prelude.{is_some, if◌then◌else◌}
use Rattle.std.specs.Str.{bytes_eq}
use Rattle.lk_types.proofs.LabelMaps.{labels_tie, labels_differ}
use Rattle.lk_types.specs.Each.{Each}
use Rattle.lk_types.specs.Rows.{Label}
use Rattle.lk_types.specs.declared.ty.Ty.{Ty}
use Rattle.lk_arena.proofs.Distinct.{lacks}
use Rattle.lk_arena.proofs.RowAlgebra.{RowFields, one_more, same_rows, label_cases, found_here, found_below, found_prop, plain_some, row_same}
use Rattle.lk_arena.specs.Openings.{OpenRow, Opened, before_open, with_opened}
use Rattle.lk_arena.specs.Shapes.{found_at, plain_of, value_at, IsPlain, IsRowOf, IsDistinct}
use Rattle.lk_arena.specs.Values.{Value, Plain, OfRow}
use Rattle.lk_arena.specs.declared.node.Field.{Field}

-- the fields have these labels, and their nodes these types
abbrev pub AreKnown : (ℕ → Value) → List Field → List Opened → Type 0
AreKnown w [] [] = Unit {0}
AreKnown w (f ∷ fs) (k ∷ ks) = (f.label ≡ k.0) × ((t : Ty) × (k.1 ≡ Some t) × (w f.node ≡ Plain t)) × AreKnown w fs ks
AreKnown w _ _ = ⊥

pub hit : (m : RowFields) (k : Label) (t : Ty) (l : Label) → l ≡ k → fin.get (fin.insert m k t) l ≡ Some t
hit m k t l e = fin.get-insert nat_list_cmp_total m k t l ∙ ap (λ b. cond b (Some t) (fin.get m l)) (labels_tie l k e)

pub miss : (m : RowFields) (k : Label) (t : Ty) (l : Label) → (l ≡ k → ⊥) → fin.get (fin.insert m k t) l ≡ fin.get m l
miss m k t l n = fin.get-insert nat_list_cmp_total m k t l ∙ ap (λ b. cond b (Some t) (fin.get m l)) (labels_differ l k n)

abbrev pub has_label : OpenRow → Label → Bool
has_label m l = fin.contains_key m.fields l

-- what a row with one field more is
pub with_one : (l : Label) (o : Option Ty) (p : Option OpenRow) (x : OpenRow) → with_opened l o p ≡ Some x
    → (t : Ty) × (m : OpenRow) × (o ≡ Some t) × (p ≡ Some m) × (has_label m l ≡ false) × (x ≡ one_more m l t)
with_one l None p x e = cc
with_one l (Some t) None x e = cc
with_one l (Some t) (Some m) x e = by_test (has_label m l) refl e
  where
    by_test : (b : Bool) → has_label m l ≡ b → (if b then None else Some (one_more m l t)) ≡ Some x
        → (u : Ty) × (n : OpenRow) × (Some t ≡ Some u) × (Some m ≡ Some n) × (has_label n l ≡ false) × (x ≡ one_more n l u)
    by_test true is e = cc
    by_test false is e = (t, m, refl, refl, is, (let h : x ≡ one_more m l t = cc in h))

-- two values at a label, where the row behind has none
nothing_behind : (w : ℕ → Value) (o : Option ℕ) (below : Option Ty) → ((n : ℕ) → o ≡ Some n → IsPlain (w n)) → value_at w o below ≡ None → below ≡ None
nothing_behind w None below p e = e
nothing_behind w (Some n) below p e = absurd (plain_some (w n) (p n refl) e)

-- what a row has at a label
at_row : (w : ℕ → Value) (fs : List Field) (y m : OpenRow) → IsRowOf fs w (OfRow y) (OfRow m) → (l : Label) → fin.get m.fields l ≡ value_at w (found_at fs l) (fin.get y.fields l)
at_row w fs y m q l =
    ap (λ (r : OpenRow). fin.get r.fields l) (row_same m q.row q.row_is) ∙ q.at l ∙ ap (λ (r : OpenRow). value_at w (found_at fs l) (fin.get r.fields l)) (row_same q.tail y (sym q.tail_is))

-- and where it ends
end_row : (w : ℕ → Value) (fs : List Field) (y m : OpenRow) → IsRowOf fs w (OfRow y) (OfRow m) → m.tail ≡ y.tail
end_row w fs y m q = ap (λ (r : OpenRow). r.tail) (row_same m q.row q.row_is) ∙ q.same_end ∙ ap (λ (r : OpenRow). r.tail) (row_same q.tail y (sym q.tail_is))

-- one field more
module _ (w : ℕ → Value) (f : Field) (fs : List Field) (t : Ty) (node_is : w f.node ≡ Plain t) (y m : OpenRow) (rest : IsRowOf fs w (OfRow y) (OfRow m)) (new : fin.get m.fields f.label ≡ None) where
  tail_same : rest.tail ≡ y
  tail_same = row_same rest.tail y (sym rest.tail_is)

  at_rest : (l : Label) → fin.get m.fields l ≡ value_at w (found_at fs l) (fin.get y.fields l)
  at_rest = at_row w fs y m rest

  at_more : (l : Label) → fin.get (fin.insert m.fields f.label t) l ≡ value_at w (found_at (f ∷ fs) l) (fin.get y.fields l)
  at_more l =
      ⊎_elim
      (λ (e : (bytes_eq l f.label ≡ true) × (l ≡ f.label)).
      hit m.fields f.label t l e.1 ∙ sym (ap (λ o. value_at w o (fin.get y.fields l)) (found_here f fs l e.0) ∙ ap plain_of node_is))
      (λ (e : bytes_eq l f.label ≡ false).
      miss m.fields f.label t l (λ same. (let q : false ≡ true = sym e ∙ (bytes_decides l f.label).1 same in cc))
      ∙ at_rest l ∙ sym (ap (λ o. value_at w o (fin.get y.fields l)) (found_below f fs l e)))
      (label_cases l f.label)

  pub row_more : IsRowOf (f ∷ fs) w (OfRow y) (OfRow (one_more m f.label t))
  row_more = record {
    tail = y;
    row = one_more m f.label t;
    tail_is = refl;
    row_is = refl;
    plain = ((t, node_is), rest.plain);
    fresh = (
      nothing_behind w (found_at fs f.label) (fin.get y.fields f.label) (λ n e. found_prop (λ k. IsPlain (w k)) fs f.label n rest.plain e) (sym (at_rest f.label) ∙ new),
      subst (λ (r : OpenRow). Each (λ g. fin.get r.fields g.label ≡ None) fs) tail_same rest.fresh,
    );
    at = at_more;
    same_end = end_row w fs y m rest;
  }

some_row : (y x : OpenRow) → Some y ≡ Some x → y ≡ x
some_row y x e = cc

-- the row is what stands before
pub before_is : (w : ℕ → Value) (fs : List Field) (ks : List Opened) (y x : OpenRow) → AreKnown w fs ks → before_open ks y ≡ Some x → IsRowOf fs w (OfRow y) (OfRow x)
before_is w [] [] y x known e =
    let same : x ≡ y = sym (some_row y x e) in
    record {
      tail = y;
      row = x;
      tail_is = refl;
      row_is = refl;
      plain = tt;
      fresh = tt;
      at = λ l. ap (λ (r : OpenRow). fin.get r.fields l) same;
      same_end = ap (λ (r : OpenRow). r.tail) same;
    }
before_is w [] (k ∷ ks) y x known e = absurd known
before_is w (f ∷ fs) [] y x known e = absurd known
before_is w (f ∷ fs) (k ∷ ks) y x known e =
    let a = with_one k.0 k.1 (before_open ks y) x e in
    let t = known.1.0 in
    let same : t ≡ a.0 = some_once t a.0 (sym known.1.1 ∙ a.2) in
    let rest = before_is w fs ks y a.1 known.2 a.3 in
    let new : fin.get a.1.fields f.label ≡ None = lacks (fin.get a.1.fields f.label) (ap (λ l. is_some (fin.get a.1.fields l)) known.0 ∙ a.4) in
    let more = row_more w f fs t known.1.2 y a.1 rest new in
    subst (λ r. IsRowOf (f ∷ fs) w (OfRow y) (OfRow r)) (ap (λ l. one_more a.1 l t) known.0 ∙ ap (one_more a.1 k.0) same ∙ sym a.5) more
  where
    some_once : (t u : Ty) → Some t ≡ Some u → t ≡ u
    some_once t u e = cc

-- a row of fields without a label twice, none of which the row behind has
pub before_some : (w : ℕ → Value) (fs : List Field) (ks : List Opened) (y : OpenRow) → AreKnown w fs ks → IsDistinct fs → Each (λ f. fin.get y.fields f.label ≡ None) fs
    → (x : OpenRow) × (before_open ks y ≡ Some x) × IsRowOf fs w (OfRow y) (OfRow x)
before_some w [] [] y known distinct fresh = (y, refl, before_is w [] [] y y tt refl)
before_some w [] (k ∷ ks) y known distinct fresh = absurd known
before_some w (f ∷ fs) [] y known distinct fresh = absurd known
before_some w (f ∷ fs) (k ∷ ks) y known distinct fresh =
    let rest = before_some w fs ks y known.2 distinct.1 fresh.1 in
    step rest.0 rest.1 rest.2 known.1.0 known.1.1 known.1.2
  where
    step : (m : OpenRow) → before_open ks y ≡ Some m → IsRowOf fs w (OfRow y) (OfRow m) → (t : Ty) → k.1 ≡ Some t → w f.node ≡ Plain t
        → (x : OpenRow) × (before_open (k ∷ ks) y ≡ Some x) × IsRowOf (f ∷ fs) w (OfRow y) (OfRow x)
    step m is row t type_is node_is =
        let new : fin.get m.fields f.label ≡ None = at_row w fs y m row f.label ∙ ap (λ o. value_at w o (fin.get y.fields f.label)) distinct.0 ∙ fresh.0 in
        let lack : has_label m k.0 ≡ false = ap (λ l. is_some (fin.get m.fields l)) (sym known.0) ∙ ap is_some new in (
          one_more m f.label t,
          (λ i. with_opened k.0 (type_is i) (is i)) ∙ ap (λ b. if b then None else Some (one_more m k.0 t)) lack ∙ ap (λ l. Some (one_more m l t)) (sym known.0),
          row_more w f fs t node_is y m row new,
        )

-- and the only one
pub before_once : (w : ℕ → Value) (fs : List Field) (y x z : OpenRow) → IsRowOf fs w (OfRow y) (OfRow x) → IsRowOf fs w (OfRow y) (OfRow z) → x ≡ z
before_once w fs y x z a b =
    same_rows x z (λ l. at_row w fs y x a l ∙ sym (at_row w fs y z b l)) (end_row w fs y x a ∙ sym (end_row w fs y z b))
