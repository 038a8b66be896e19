-- Rows with fields before them, one by one: what such a row has under each label, and how it grows from the row behind.
use Rattle.std.proofs.Common.{◌≡◌, ◌+◌, Bool, true, false, cond, T, inl, inr, refl, sym, ap, subst, ◌∙◌, List, [], ◌∷◌, ◌++◌, map, length, Option, Some, None, is_some, if◌then◌else◌, arith, bytes_eq}
use Rattle.std.proofs.lemmas.Map.Text.{is_eq-slice_cmp}
use Rattle.std.proofs.lemmas.Slice.Eq.{bytes_eq-Decides}
use Rattle.std.specs.Cmp.{tied_itself, eq_by_cmp_equiv}
use Rattle.std.specs.Cmp.Lexicographic.{nat_list_cmp_total}
use Rattle.std.specs.FinMap as fin
use Rattle.std.specs.FinMap.Entries.{below_all, by_order}
use Rattle.std.specs.Option.{option_or}
use Rattle.std.specs.Ordering.{eq_by_cmp, is_eq, is_lt}
use Rattle.std.specs.declared.cmp.Ordering.{Ordering}
use Rattle.std.specs.declared.cmp.Ordering.TheVariants.{Less, Equal, Greater}
use Rattle.std.proofs.lemmas.List.{nil_from_length}
use Rattle.lk_types.proofs.LabelMaps.{first_holds, second_holds}
use Rattle.lk_types.proofs.Parts.{same_some}
use Rattle.lk_types.proofs.Rows.{fields_swap}
use Rattle.lk_types.specs.Each.{OneOf}
use Rattle.lk_types.specs.Grounding.{Known, before_row}
use Rattle.lk_types.specs.Rows.{Label, Row, label_order, no_fields, has_label, with_field, fields_of}
use Rattle.lk_types.specs.declared.ground.Ground.{Ground}
use Rattle.lk_types.specs.declared.ground.GroundField.{GroundField}
use Rattle.lk_typing.specs.Names.{Named, named}
use Rattle.lk_typing.specs.Types.{with_fields}

-- labels with types as fields
abbrev pub as_fields : Named Ground → List GroundField
as_fields fields = map (λ e. record { label = e.0; ty = e.1 }) fields

abbrev as_known : Named Ground → List Known
as_known fields = map (λ f. (f.0, Some f.1)) fields

-- ---- a row before which fields are put, the first of them first

-- each of the fields is put in, and the row lacked its label
pub data Grows : Row → Named Ground → Row → Type 0 where
  stays : {row : Row} → Grows row [] row
  grows : {row last : Row} {f : Label × Ground} {fields : Named Ground} → has_label row f.0 ≡ false → Grows (fin.insert row f.0 f.1) fields last → Grows row (f ∷ fields) last

pub grows_on : {first row last : Row} {fields more : Named Ground} → Grows first fields row → Grows row more last → Grows first (fields ++ more) last
grows_on stays rest = rest
grows_on (grows lacks inner) rest = grows lacks (grows_on inner rest)

pub grown_length : {row last : Row} {fields : Named Ground} → Grows row fields last → fin.len last ≡ fin.len row + length fields
grown_length stays = omega arith
grown_length (grows {row = row} {last = last} {f = f} {fields = fields} lacks inner) =
    let one : fin.len (fin.insert row f.0 f.1) ≡ fin.len row + 1 = fin.len-insert nat_list_cmp_total row f.0 f.1 ∙ ap (λ b. cond b (fin.len row) (fin.len row + 1)) lacks in
    let rest : fin.len last ≡ fin.len (fin.insert row f.0 f.1) + length fields = grown_length inner in
    omega arith

-- fields before a row that may be missing
abbrev before : List Known → Option Row → Option Row
before [] row = row
before (f ∷ fs) row = with_field f.0 f.1 (before fs row)

before_there : (fs : List Known) (row : Row) → before fs (Some row) ≡ before_row fs row
before_there [] row = refl
before_there (f ∷ fs) row = ap (with_field f.0 f.1) (before_there fs row)

none_before : (l : Label) (o : Option Ground) → with_field l o None ≡ None
none_before l None = refl
none_before l (Some t) = refl

before_missing : (fs : List Known) → before fs None ≡ None
before_missing [] = refl
before_missing (f ∷ fs) = ap (with_field f.0 f.1) (before_missing fs) ∙ none_before f.0 f.1

-- the first field may as well be put in first
first_inside : (l : Label) (o : Option Ground) (fs : List Known) (row : Option Row) → with_field l o (before fs row) ≡ before fs (with_field l o row)
first_inside l o [] row = refl
first_inside l o (f ∷ fs) row = fields_swap l f.0 o f.1 (before fs row) ∙ ap (with_field f.0 f.1) (first_inside l o fs row)

by_first : (f : Label × Ground) (fields : Named Ground) (other row : Row) (b : Bool) → has_label other f.0 ≡ b
    → before (as_known fields) (if b then None else Some (fin.insert other f.0 f.1)) ≡ Some row
    → (with_fields fields (fin.insert other f.0 f.1) ≡ Some row → Grows (fin.insert other f.0 f.1) fields row)
    → Grows other (f ∷ fields) row
by_first f fields other row true has is rest = let wrong : None ≡ Some row = sym (before_missing (as_known fields)) ∙ is in cc
by_first f fields other row false lacks is rest = grows lacks (rest (sym (before_there (as_known fields) (fin.insert other f.0 f.1)) ∙ is))

pub grows_to : (fields : Named Ground) (other row : Row) → with_fields fields other ≡ Some row → Grows other fields row
grows_to [] other row is = subst (Grows other []) (same_some is) stays
grows_to (f ∷ fields) other row is =
    by_first f fields other row (has_label other f.0) refl
    (sym (first_inside f.0 (Some f.1) (as_known fields) (Some other)) ∙ ap (with_field f.0 (Some f.1)) (before_there (as_known fields) other) ∙ is)
    (grows_to fields (fin.insert other f.0 f.1) row)

-- ---- what the row has under a label

-- the row behind the first field
record Behind (l : Label) (t : Ground) (o : Option Row) (row : Row) : Type 0 where
  rest : Row
  there : o ≡ Some rest
  is : row ≡ fin.insert rest l t

behind_first : (l : Label) (t : Ground) (o : Option Row) (row : Row) → with_field l (Some t) o ≡ Some row → Behind l t o row
behind_first l t None row is = let wrong : None ≡ Some row = is in cc
behind_first l t (Some rest) row is = by_test (has_label rest l) refl is
  where
    by_test : (b : Bool) → has_label rest l ≡ b → (if b then None else Some (fin.insert rest l t)) ≡ Some row → Behind l t (Some rest) row
    by_test true has is = let wrong : None ≡ Some row = is in cc
    by_test false lacks is = record { rest = rest; there = refl; is = sym (same_some is) }

-- the order of a row and the test of bytes say the same
pub same_test : (q l : Label) → eq_by_cmp label_order q l ≡ bytes_eq l q
same_test q l = (eq_by_cmp_equiv nat_list_cmp_total).symm q l ∙ is_eq-slice_cmp l q

chosen : (b : Bool) (t : Ground) (o p : Option Ground) → cond b (Some t) (option_or o p) ≡ option_or (if b then Some t else o) p
chosen true t o p = refl
chosen false t o p = refl

-- under a label it has what the first field with that label has, or else what the row behind all fields has
pub get_with : (q : Label) (fields : Named Ground) (other row : Row) → with_fields fields other ≡ Some row → fin.get row q ≡ option_or (named q fields) (fin.get other q)
get_with q [] other row is = ap (λ m. fin.get m q) (sym (same_some is))
get_with q (f ∷ fields) other row is =
    let behind : Behind f.0 f.1 (with_fields fields other) row = behind_first f.0 f.1 (with_fields fields other) row is in
    ap (λ m. fin.get m q) behind.is
    ∙ fin.get-insert nat_list_cmp_total behind.rest f.0 f.1 q
    ∙ ap (cond (eq_by_cmp label_order q f.0) (Some f.1)) (get_with q fields other behind.rest behind.there)
    ∙ ap (λ b. cond b (Some f.1) (option_or (named q fields) (fin.get other q))) (same_test q f.0)
    ∙ chosen (bytes_eq f.0 q) f.1 (named q fields) (fin.get other q)

-- the one field before a row
pub get_first : (l : Label) (t : Ground) (other row : Row) → with_fields ((l, t) ∷ []) other ≡ Some row → fin.get row l ≡ Some t
get_first l t other row is =
    get_with l ((l, t) ∷ []) other row is ∙ ap (λ b. option_or (if b then Some t else None) (fin.get other l)) ((bytes_eq-Decides l l).1 refl)

-- ---- fields of a row

pub less : (o : Ordering) → T (is_lt o) → o ≡ Less
less Less p = refl
less Equal p = absurd p
less Greater p = absurd p

-- a field behind the first one of a list in order
apart : (l : Label) (es : Named Ground) (g : GroundField) → T (below_all label_order l es) → OneOf (λ other. other ≡ g) (as_fields es) → label_order l g.label ≡ Less
apart l [] g below one = absurd one
apart l (e ∷ es) g below (inl is) = ap (λ (g : GroundField). label_order l g.label) (sym is) ∙ less _ (first_holds _ _ below)
apart l (e ∷ es) g below (inr one) = apart l es g (second_holds _ _ below) one

not_tied : (q l : Label) → label_order l q ≡ Less → eq_by_cmp label_order q l ≡ false
not_tied q l below = (eq_by_cmp_equiv nat_list_cmp_total).symm q l ∙ ap is_eq below

among_found : (es : Named Ground) (g : GroundField) → T (fin.is_sorted label_order es) → OneOf (λ other. other ≡ g) (as_fields es) → fin.find label_order g.label es ≡ Some g.ty
among_found [] g sorted one = absurd one
among_found (e ∷ es) g sorted (inl is) =
    subst (λ (g : GroundField). fin.find label_order g.label (e ∷ es) ≡ Some g.ty) is
    (ap (λ o. cond (is_eq o) (Some e.1) (fin.find label_order e.0 es)) (tied_itself nat_list_cmp_total e.0))
among_found (e ∷ es) g sorted (inr one) =
    ap (λ b. cond b (Some e.1) (fin.find label_order g.label es)) (not_tied g.label e.0 (apart e.0 es g (first_holds _ _ sorted) one))
    ∙ among_found es g (second_holds _ _ sorted) one

-- what is one of the fields is found under its label
pub among_get : (row : Row) (g : GroundField) → OneOf (λ other. other ≡ g) (fields_of row) → fin.get row g.label ≡ Some g.ty
among_get row g one = fin.get-entries row g.label ∙ among_found (fin.entries row) g (fin.entries_sorted row) one

found_among : (q : Label) (t : Ground) (es : Named Ground) → fin.find label_order q es ≡ Some t → OneOf (λ other. other ≡ record { label = q; ty = t }) (as_fields es)
found_among q t [] is = let wrong : None ≡ Some t = is in cc
found_among q t (e ∷ es) is = by_test (eq_by_cmp label_order q e.0) refl is (found_among q t es)
  where
    by_test : (b : Bool) → eq_by_cmp label_order q e.0 ≡ b → cond b (Some e.1) (fin.find label_order q es) ≡ Some t
        → (fin.find label_order q es ≡ Some t → OneOf (λ other. other ≡ record { label = q; ty = t }) (as_fields es))
        → OneOf (λ other. other ≡ record { label = q; ty = t }) (as_fields (e ∷ es))
    by_test true tied is rest =
        let label : e.0 ≡ q = (bytes_eq-Decides e.0 q).0 (sym (same_test q e.0) ∙ tied) in
        let ty : e.1 ≡ t = same_some is in
        inl (λ i. record { label = label i; ty = ty i })
    by_test false other is rest = inr (rest is)

-- what is found under a label is one of the fields
pub get_among : (row : Row) (q : Label) (t : Ground) → fin.get row q ≡ Some t → OneOf (λ other. other ≡ record { label = q; ty = t }) (fields_of row)
get_among row q t is = found_among q t (fin.entries row) (sym (fin.get-entries row q) ∙ is)

-- ---- a row made of its own fields

pub no_entries : (X : Type 0) → fin.entries (fin.empty {X = X} {R = label_order}) ≡ []
no_entries X = nil_from_length (fin.entries fin.empty) (sym (fin.len-entries fin.empty) ∙ fin.len-empty label_order X)

missed : (l : Label) (es : Named Ground) → T (below_all label_order l es) → fin.find label_order l es ≡ None
missed l [] below = refl
missed l (e ∷ es) below = ap (λ o. cond (is_eq o) (Some e.1) (fin.find label_order l es)) (less _ (first_holds _ _ below)) ∙ missed l es (second_holds _ _ below)

put_first : (l : Label) (t : Ground) (es : Named Ground) → T (below_all label_order l es) → fin.put label_order l t es ≡ (l, t) ∷ es
put_first l t [] below = refl
put_first l t (e ∷ es) below = ap (λ o. by_order o ((l, t) ∷ e ∷ es) ((e.0, t) ∷ es) (e ∷ fin.put label_order l t es)) (less _ (first_holds _ _ below))

record Built (es : Named Ground) : Type 0 where
  row : Row
  is : with_fields es no_fields ≡ Some row
  has : fin.entries row ≡ es

built : (es : Named Ground) → T (fin.is_sorted label_order es) → Built es
built [] sorted = record { row = no_fields; is = refl; has = no_entries Ground }
built (e ∷ es) sorted =
    let rest : Built es = built es (second_holds _ _ sorted) in
    let below : T (below_all label_order e.0 es) = first_holds _ _ sorted in
    let none : fin.get rest.row e.0 ≡ None = fin.get-entries rest.row e.0 ∙ ap (fin.find label_order e.0) rest.has ∙ missed e.0 es below in
    record {
      row = fin.insert rest.row e.0 e.1;
      is = ap (with_field e.0 (Some e.1)) rest.is ∙ ap (λ o. if is_some o then None else Some (fin.insert rest.row e.0 e.1)) none;
      has = fin.entries-insert nat_list_cmp_total rest.row e.0 e.1 ∙ ap (fin.put label_order e.0 e.1) rest.has ∙ put_first e.0 e.1 es below;
    }

-- the fields of a row make it, one by one in their order
pub grows_itself : (row : Row) → Grows no_fields (fin.entries row) row
grows_itself row =
    let own : Built (fin.entries row) = built (fin.entries row) (fin.entries_sorted row) in
    grows_to (fin.entries row) no_fields row (own.is ∙ ap Some (fin.same_entries_map own.row row own.has))
