-- Two rows side by side: what they share, and what each has besides (Rémy, Type inference for records in a natural extension of
-- ML, 1993).
use Rattle.std.proofs.Common.{◌≡◌, ℕ, ◌+◌, ◌<◌, true, false, List, [], ◌∷◌, length, get_or, drop, ◌⊎◌, inl, inr, ⊎_elim, refl, sym, ◌∙◌, ap, subst, Option, Some, None, cond}
use Rattle.std.proofs.lemmas.List.{drop_more}
use Rattle.std.specs.Cmp.Lexicographic.{nat_list_cmp_total, bytes_decides}
use Rattle.std.specs.FinMap as fin
use Rattle.std.specs.Prelude.{is_some, not}
use Rattle.std.specs.Str.{bytes_eq}
use Rattle.std.proofs.lemmas.Bool.{cases_Bool}
use Rattle.std.proofs.lemmas.Option.{none-some}
use Rattle.lk_types.proofs.Members.{each_weaker}
use Rattle.lk_types.specs.Each.{Each}
use Rattle.lk_types.specs.Rows.{Label, label_order}
use Rattle.lk_types.specs.declared.ty.RowTail.TheVariants.{Closed}
use Rattle.lk_types.specs.declared.ty.Ty.{Ty}
use Rattle.lk_arena.proofs.EachLemmas.{Each-zip}
use Rattle.lk_arena.specs.Openings.{OpenRow, only_tail}
use Rattle.lk_arena.specs.Shapes.{found_at, plain_of, value_at, IsPlain, IsRowOf, missing, keep_missing, common, pair_common, Equates, IsDistinct, AreFound}
use Rattle.lk_arena.specs.Values.{Value, Plain, OfRow}
use Rattle.lk_arena.specs.declared.node.Field.{Field}

-- the fields of a row
abbrev pub RowFields : Type 0
RowFields = fin.FinMap label_order Ty

-- the row with one field more
abbrev pub one_more : OpenRow → Label → Ty → OpenRow
one_more m l t = record { fields = fin.insert m.fields l t; tail = m.tail }

pub same_rows : (m n : OpenRow) → ((l : Label) → fin.get m.fields l ≡ fin.get n.fields l) → m.tail ≡ n.tail → m ≡ n
same_rows m n h e =
    let f = fin.same_map nat_list_cmp_total (fin.slice_cmp-IsAntisymmetric fin.nat_cmp-IsAntisymmetric) m.fields n.fields h in
    λ i. record { fields = f i; tail = e i }

pub label_cases : (a b : Label) → ((bytes_eq a b ≡ true) × (a ≡ b)) ⊎ (bytes_eq a b ≡ false)
label_cases a b = ⊎_elim (λ e. inl (e, (bytes_decides a b).0 e)) (λ e. inr e) (cases_Bool (bytes_eq a b))

-- ---- found_at at each form

pub found_here : (f : Field) (fs : List Field) (l : Label) → bytes_eq l f.label ≡ true → found_at (f ∷ fs) l ≡ Some f.node
found_here f fs l e = ap (λ b. cond b (Some f.node) (found_at fs l)) e

pub found_below : (f : Field) (fs : List Field) (l : Label) → bytes_eq l f.label ≡ false → found_at (f ∷ fs) l ≡ found_at fs l
found_below f fs l e = ap (λ b. cond b (Some f.node) (found_at fs l)) e

abbrev pub unless : Option ℕ → Option ℕ → Option ℕ
unless None o = o
unless (Some n) o = None

unless-none : (o : Option ℕ) → unless o None ≡ None
unless-none None = refl
unless-none (Some n) = refl

pub found_at-missing : (fs gs : List Field) (l : Label) → found_at (missing fs gs) l ≡ unless (found_at gs l) (found_at fs l)
found_at-missing [] gs l = sym (unless-none (found_at gs l))
found_at-missing (f ∷ fs) gs l =
    let ih = found_at-missing fs gs l in
    ⊎_elim (λ e. here (found_at gs f.label) (ap (found_at gs) e.1) e.0 ih) (λ e. below (found_at gs f.label) e ih) (label_cases l f.label)
  where
    here :
        (o : Option ℕ) → found_at gs l ≡ o → bytes_eq l f.label ≡ true → found_at (missing fs gs) l ≡ unless (found_at gs l) (found_at fs l) →
        found_at (keep_missing o f (missing fs gs)) l ≡ unless (found_at gs l) (found_at (f ∷ fs) l)
    here None is e ih = found_here f (missing fs gs) l e ∙ sym (ap (λ o. unless o (found_at (f ∷ fs) l)) is ∙ found_here f fs l e)
    here (Some n) is e ih = ih ∙ ap (λ o. unless o (found_at fs l)) is ∙ sym (ap (λ o. unless o (found_at (f ∷ fs) l)) is)

    below :
        (o : Option ℕ) → bytes_eq l f.label ≡ false → found_at (missing fs gs) l ≡ unless (found_at gs l) (found_at fs l) →
        found_at (keep_missing o f (missing fs gs)) l ≡ unless (found_at gs l) (found_at (f ∷ fs) l)
    below None e ih = found_below f (missing fs gs) l e ∙ ih ∙ sym (ap (unless (found_at gs l)) (found_below f fs l e))
    below (Some n) e ih = ih ∙ sym (ap (unless (found_at gs l)) (found_below f fs l e))

-- what holds of each field holds of those that are missing
pub Each-missing : (P : Field → Type 0) (fs gs : List Field) → Each P fs → Each P (missing fs gs)
Each-missing P [] gs e = tt
Each-missing P (f ∷ fs) gs e = kept (found_at gs f.label) (Each-missing P fs gs e.1)
  where
    kept : (o : Option ℕ) → Each P (missing fs gs) → Each P (keep_missing o f (missing fs gs))
    kept None r = (e.0, r)
    kept (Some n) r = r

-- the second lacks the labels of those
pub Each-lacking : (fs gs : List Field) → Each (λ f. found_at gs f.label ≡ None) (missing fs gs)
Each-lacking [] gs = tt
Each-lacking (f ∷ fs) gs = kept (found_at gs f.label) refl (Each-lacking fs gs)
  where
    kept : (o : Option ℕ) → found_at gs f.label ≡ o → Each (λ f. found_at gs f.label ≡ None) (missing fs gs) → Each (λ f. found_at gs f.label ≡ None) (keep_missing o f (missing fs gs))
    kept None e r = (e, r)
    kept (Some n) e r = r

some-some : {m n : ℕ} → Some m ≡ Some n → m ≡ n
some-some e = cc

-- labels that both have stand for one value each
pub common_at : (w : ℕ → Value) (fs gs : List Field) → Equates (common fs gs) w → (l : Label) (x y : ℕ) → found_at fs l ≡ Some x → found_at gs l ≡ Some y → w x ≡ w y
common_at w [] gs eqs l x y a b = absurd (none-some x a)
common_at w (f ∷ fs) gs eqs l x y a b =
    ⊎_elim (λ e. here (found_at gs f.label) (ap (found_at gs) (sym e.1) ∙ b) e.0 eqs)
    (λ e. common_at w fs gs (rest (found_at gs f.label) eqs) l x y (sym (found_below f fs l e) ∙ a) b) (label_cases l f.label)
  where
    here : (o : Option ℕ) → o ≡ Some y → bytes_eq l f.label ≡ true → Equates (pair_common o f.node (common fs gs)) w → w x ≡ w y
    here None e t q = absurd (none-some y e)
    here (Some n) e t q = ap w (some-some (sym a ∙ found_here f fs l t)) ∙ q.0 ∙ ap w (some-some e)

    rest : (o : Option ℕ) → Equates (pair_common o f.node (common fs gs)) w → Equates (common fs gs) w
    rest None q = q
    rest (Some n) q = q.1

pub common_from : (w : ℕ → Value) (fs gs : List Field) → Each (λ f. (y : ℕ) → found_at gs f.label ≡ Some y → w f.node ≡ w y) fs → Equates (common fs gs) w
common_from w [] gs e = tt
common_from w (f ∷ fs) gs e = with_rest (found_at gs f.label) refl (common_from w fs gs e.1)
  where
    with_rest : (o : Option ℕ) → found_at gs f.label ≡ o → Equates (common fs gs) w → Equates (pair_common o f.node (common fs gs)) w
    with_rest None is r = r
    with_rest (Some n) is r = (e.0 n is, r)

-- ---- a field that is found

pub found_prop : (P : ℕ → Type 0) (fs : List Field) (l : Label) (x : ℕ) → Each (λ f. P f.node) fs → found_at fs l ≡ Some x → P x
found_prop P [] l x e is = absurd (none-some x is)
found_prop P (f ∷ fs) l x e is =
    ⊎_elim (λ t. subst P (some-some (sym (found_here f fs l t.0) ∙ is)) e.0)
    (λ t. found_prop P fs l x e.1 (sym (found_below f fs l t) ∙ is)) (label_cases l f.label)

pub found_label : (Q : Label → Type 0) (fs : List Field) (l : Label) (x : ℕ) → Each (λ f. Q f.label) fs → found_at fs l ≡ Some x → Q l
found_label Q [] l x e is = absurd (none-some x is)
found_label Q (f ∷ fs) l x e is =
    ⊎_elim (λ t. subst Q (sym t.1) e.0) (λ t. found_label Q fs l x e.1 (sym (found_below f fs l t) ∙ is)) (label_cases l f.label)

pub plain_same : (a b : Value) → IsPlain a → plain_of a ≡ plain_of b → IsPlain b → a ≡ b
plain_same (Plain s) (Plain t) p e q = ap Plain (some-some' e)
  where
    some-some' : {s t : Ty} → Some s ≡ Some t → s ≡ t
    some-some' e = cc
plain_same (Plain s) (OfRow m) p e q = absurd (none-some s (sym e))
plain_same (OfRow m) b p e q = let f : OfRow m ≡ Plain p.0 = p.1 in cc

pub plain_some : (a : Value) → IsPlain a → plain_of a ≡ None → ⊥
plain_some (Plain s) p e = none-some s (sym e)
plain_some (OfRow m) p e = let f : OfRow m ≡ Plain p.0 = p.1 in cc

pub row_same : (m n : OpenRow) → OfRow m ≡ OfRow n → m ≡ n
row_same m n e = cc

-- ---- one row in two ways

module _ (w : ℕ → Value) (fs gs : List Field) where
  missing_is : (l : Label) (o p : Option ℕ) → found_at fs l ≡ o → found_at gs l ≡ p → found_at (missing gs fs) l ≡ unless o p
  missing_is l o p a b = found_at-missing gs fs l ∙ (λ i. unless (a i) (b i))

  missing_is' : (l : Label) (o p : Option ℕ) → found_at fs l ≡ o → found_at gs l ≡ p → found_at (missing fs gs) l ≡ unless p o
  missing_is' l o p a b = found_at-missing fs gs l ∙ (λ i. unless (b i) (a i))

  at_of : (hs : List Field) (o : Option ℕ) (l : Label) (row tail : OpenRow) → fin.get row.fields l ≡ value_at w (found_at hs l) (fin.get tail.fields l)
      → found_at hs l ≡ o → fin.get row.fields l ≡ value_at w o (fin.get tail.fields l)
  at_of hs o l row tail e is = e ∙ ap (λ o. value_at w o (fin.get tail.fields l)) is

  module _ (y z x : Value) (left : IsRowOf fs w y x) (right : IsRowOf gs w z x) where
    same_row : left.row ≡ right.row
    same_row = row_same left.row right.row (sym left.row_is ∙ right.row_is)

    at_left : (l : Label) (o : Option ℕ) → found_at fs l ≡ o → fin.get left.row.fields l ≡ value_at w o (fin.get left.tail.fields l)
    at_left l o e = at_of fs o l left.row left.tail (left.at l) e

    at_right : (l : Label) (o : Option ℕ) → found_at gs l ≡ o → fin.get left.row.fields l ≡ value_at w o (fin.get right.tail.fields l)
    at_right l o e = ap (λ (m : OpenRow). fin.get m.fields l) same_row ∙ at_of gs o l right.row right.tail (right.at l) e

    pub rows_common : AreFound fs → Equates (common fs gs) w
    rows_common distinct =
        common_from w fs gs
        (Each-zip (λ f. found_at fs f.label ≡ Some f.node) (λ f. IsPlain (w f.node)) (λ f. (y : ℕ) → found_at gs f.label ≡ Some y → w f.node ≡ w y)
        (λ f d p y e. plain_same (w f.node) (w y) p (sym (at_left f.label (Some f.node) d) ∙ at_right f.label (Some y) e)
        (found_prop (λ n. IsPlain (w n)) gs f.label y right.plain e))
        fs distinct left.plain)

    -- what is left of both tails
    pub rest : OpenRow
    rest = record { fields = fin.retain_keys left.tail.fields (λ l. not (is_some (found_at (missing gs fs) l))); tail = left.tail.tail }

    rest_end : rest.tail ≡ left.tail.tail
    unfolding rest
    rest_end = refl

    get-rest : (l : Label) (o : Option ℕ) → found_at (missing gs fs) l ≡ o → fin.get rest.fields l ≡ cond (not (is_some o)) (fin.get left.tail.fields l) None
    unfolding rest
    get-rest l o e =
        fin.get-retain_keys left.tail.fields (λ l. not (is_some (found_at (missing gs fs) l))) l
        (λ k t. ap (λ l. not (is_some (found_at (missing gs fs) l))) (sym (fin.slice_cmp-IsAntisymmetric fin.nat_cmp-IsAntisymmetric l k t)))
        ∙ ap (λ o. cond (not (is_some o)) (fin.get left.tail.fields l) None) e

    pub rows_left : AreFound gs → IsRowOf (missing gs fs) w (OfRow rest) y
    rows_left distinct = record {
      tail = rest;
      row = left.tail;
      tail_is = refl;
      row_is = left.tail_is;
      plain = Each-missing (λ f. IsPlain (w f.node)) gs fs right.plain;
      fresh =
          Each-zip (λ f. found_at gs f.label ≡ Some f.node) (λ f. found_at fs f.label ≡ None) (λ f. fin.get rest.fields f.label ≡ None)
          (λ f d e. get-rest f.label (Some f.node) (missing_is f.label None (Some f.node) e d)) (missing gs fs)
          (Each-missing (λ f. found_at gs f.label ≡ Some f.node) gs fs distinct) (Each-lacking gs fs);
      at = λ l. go l (found_at fs l) (found_at gs l) refl refl;
      same_end = sym rest_end;
    }
      where
        go : (l : Label) (o p : Option ℕ) → found_at fs l ≡ o → found_at gs l ≡ p → fin.get left.tail.fields l ≡ value_at w (found_at (missing gs fs) l) (fin.get rest.fields l)
        go l None None a b = sym (ap (λ o. value_at w o (fin.get rest.fields l)) (missing_is l None None a b) ∙ get-rest l None (missing_is l None None a b))
        go l (Some x) None a b = sym (ap (λ o. value_at w o (fin.get rest.fields l)) (missing_is l (Some x) None a b) ∙ get-rest l None (missing_is l (Some x) None a b))
        go l None (Some y) a b =
            sym (at_left l None a) ∙ at_right l (Some y) b ∙ sym (ap (λ o. value_at w o (fin.get rest.fields l)) (missing_is l None (Some y) a b))
        go l (Some x) (Some y) a b =
            sym (ap (λ o. value_at w o (fin.get rest.fields l)) (missing_is l (Some x) (Some y) a b) ∙ get-rest l None (missing_is l (Some x) (Some y) a b))

    pub rows_right : AreFound fs → IsRowOf (missing fs gs) w (OfRow rest) z
    rows_right distinct = record {
      tail = rest;
      row = right.tail;
      tail_is = refl;
      row_is = right.tail_is;
      plain = Each-missing (λ f. IsPlain (w f.node)) fs gs left.plain;
      fresh =
          Each-zip (λ f. found_at fs f.label ≡ Some f.node) (λ f. found_at gs f.label ≡ None) (λ f. fin.get rest.fields f.label ≡ None)
          (λ f d e. get-rest f.label None (missing_is f.label (Some f.node) None d e) ∙ found_label (λ l. fin.get left.tail.fields l ≡ None) fs f.label f.node left.fresh d) (missing fs gs)
          (Each-missing (λ f. found_at fs f.label ≡ Some f.node) fs gs distinct) (Each-lacking fs gs);
      at = λ l. go l (found_at fs l) (found_at gs l) refl refl;
      same_end = sym right.same_end ∙ ap (λ (m : OpenRow). m.tail) (sym same_row) ∙ left.same_end ∙ sym rest_end;
    }
      where
        go : (l : Label) (o p : Option ℕ) → found_at fs l ≡ o → found_at gs l ≡ p → fin.get right.tail.fields l ≡ value_at w (found_at (missing fs gs) l) (fin.get rest.fields l)
        go l None None a b =
            sym (at_right l None b) ∙ at_left l None a ∙ sym (ap (λ o. value_at w o (fin.get rest.fields l)) (missing_is' l None None a b) ∙ get-rest l None (missing_is l None None a b))
        go l (Some x) None a b =
            sym (at_right l None b) ∙ at_left l (Some x) a ∙ sym (ap (λ o. value_at w o (fin.get rest.fields l)) (missing_is' l (Some x) None a b))
        go l None (Some y) a b =
            found_label (λ l. fin.get right.tail.fields l ≡ None) gs l y right.fresh b
            ∙ sym (ap (λ o. value_at w o (fin.get rest.fields l)) (missing_is' l None (Some y) a b) ∙ get-rest l (Some y) (missing_is l None (Some y) a b))
        go l (Some x) (Some y) a b =
            found_label (λ l. fin.get right.tail.fields l ≡ None) gs l y right.fresh b
            ∙ sym (ap (λ o. value_at w o (fin.get rest.fields l)) (missing_is' l (Some x) (Some y) a b) ∙ get-rest l None (missing_is l (Some x) (Some y) a b)
            ∙ found_label (λ l. fin.get left.tail.fields l ≡ None) fs l x left.fresh a)

    -- over one tail neither has a label that the other lacks
    pub same_tail_left : y ≡ z → Each (λ f. found_at fs f.label ≡ Some f.node) (missing fs gs) → Each (λ f. ⊥) (missing fs gs)
    same_tail_left e distinct =
        let tails : left.tail ≡ right.tail = row_same left.tail right.tail (sym left.tail_is ∙ e ∙ right.tail_is) in
        Each-zip (λ f. (found_at fs f.label ≡ Some f.node) × (found_at gs f.label ≡ None)) (λ f. IsPlain (w f.node)) (λ f. ⊥)
        (λ f d p. plain_some (w f.node) p
        (sym (at_left f.label (Some f.node) d.0) ∙ at_right f.label None d.1 ∙ ap (λ (m : OpenRow). fin.get m.fields f.label) (sym tails)
        ∙ found_label (λ l. fin.get left.tail.fields l ≡ None) fs f.label f.node left.fresh d.0))
        (missing fs gs)
        (Each-zip (λ f. found_at fs f.label ≡ Some f.node) (λ f. found_at gs f.label ≡ None) (λ f. (found_at fs f.label ≡ Some f.node) × (found_at gs f.label ≡ None))
        (λ f a b. (a, b)) (missing fs gs) distinct (Each-lacking fs gs))
        (Each-missing (λ f. IsPlain (w f.node)) fs gs left.plain)

    -- over a row without fields the first has all labels
    pub empty_left : y ≡ OfRow (only_tail Closed) → Each (λ f. found_at gs f.label ≡ Some f.node) (missing gs fs) → Each (λ f. ⊥) (missing gs fs)
    empty_left e distinct =
        let tails : left.tail ≡ only_tail Closed = row_same left.tail (only_tail Closed) (sym left.tail_is ∙ e) in
        Each-zip (λ f. (found_at gs f.label ≡ Some f.node) × (found_at fs f.label ≡ None)) (λ f. IsPlain (w f.node)) (λ f. ⊥)
        (λ f d p. plain_some (w f.node) p
        (sym (at_right f.label (Some f.node) d.0) ∙ at_left f.label None d.1 ∙ ap (λ (m : OpenRow). fin.get m.fields f.label) tails ∙ fin.get-empty label_order f.label))
        (missing gs fs)
        (Each-zip (λ f. found_at gs f.label ≡ Some f.node) (λ f. found_at fs f.label ≡ None) (λ f. (found_at gs f.label ≡ Some f.node) × (found_at fs f.label ≡ None))
        (λ f a b. (a, b)) (missing gs fs) distinct (Each-lacking gs fs))
        (Each-missing (λ f. IsPlain (w f.node)) gs fs right.plain)

-- ---- steps of a search

pub found_same : (f : Field) (fs : List Field) (l : Label) → l ≡ f.label → found_at (f ∷ fs) l ≡ Some f.node
found_same f fs l e = found_here f fs l ((bytes_decides l f.label).1 e)

pub found_other : (f : Field) (fs : List Field) (l : Label) → (l ≡ f.label → ⊥) → found_at (f ∷ fs) l ≡ found_at fs l
found_other f fs l n = ⊎_elim (λ e. absurd (n e.1)) (λ e. found_below f fs l e) (label_cases l f.label)

module _ (fields : List Field) (i : ℕ) (f : Field) (l : Label) (within : i < length fields) (is : f ≡ get_or fields i f) where
  drop_is : drop i fields ≡ f ∷ drop (i + 1) fields
  drop_is = drop_more fields i f within ∙ ap (λ g. g ∷ drop (i + 1) fields) (sym is)

  pub found_now : found_at (drop i fields) l ≡ found_at fields l → l ≡ f.label → Some f.node ≡ found_at fields l
  found_now so_far e = sym (found_same f (drop (i + 1) fields) l e) ∙ ap (λ fs. found_at fs l) (sym drop_is) ∙ so_far

  pub found_later : found_at (drop i fields) l ≡ found_at fields l → (l ≡ f.label → ⊥) → found_at (drop (i + 1) fields) l ≡ found_at fields l
  found_later so_far n = sym (found_other f (drop (i + 1) fields) l n) ∙ ap (λ fs. found_at fs l) (sym drop_is) ∙ so_far

-- ---- the other way round: a row with the fields of the first, from one with the fields of the second

module _ (w : ℕ → Value) (fs gs : List Field) (y z u x : Value) (right : IsRowOf gs w z x) (low : IsRowOf (missing gs fs) w u y) (low' : IsRowOf (missing fs gs) w u z)
    (eqs : Equates (common fs gs) w) (distinct : AreFound fs) where
  same_low : low.tail ≡ low'.tail
  same_low = row_same low.tail low'.tail (sym low.tail_is ∙ low'.tail_is)

  same_mid : right.tail ≡ low'.row
  same_mid = row_same right.tail low'.row (sym right.tail_is ∙ low'.row_is)

  -- a field of the first is shared or missing in the second
  plain_at : (f : Field) → found_at fs f.label ≡ Some f.node → (o : Option ℕ) → found_at gs f.label ≡ o → IsPlain (w f.node)
  plain_at f d (Some n) e =
      subst IsPlain (sym (common_at w fs gs eqs f.label f.node n d e)) (found_prop (λ n. IsPlain (w n)) gs f.label n right.plain e)
  plain_at f d None e = found_prop (λ n. IsPlain (w n)) (missing fs gs) f.label f.node low'.plain (missing_is' w fs gs f.label (Some f.node) None d e)

  fresh_at : (f : Field) → found_at fs f.label ≡ Some f.node → (o : Option ℕ) → found_at gs f.label ≡ o → fin.get low.row.fields f.label ≡ None
  fresh_at f d (Some n) e =
      low.at f.label ∙ ap (λ o. value_at w o (fin.get low.tail.fields f.label)) (missing_is w fs gs f.label (Some f.node) (Some n) d e)
      ∙ ap (λ (m : OpenRow). fin.get m.fields f.label) same_low
      ∙ sym (low'.at f.label ∙ ap (λ o. value_at w o (fin.get low'.tail.fields f.label)) (missing_is' w fs gs f.label (Some f.node) (Some n) d e))
      ∙ ap (λ (m : OpenRow). fin.get m.fields f.label) (sym same_mid) ∙ found_label (λ l. fin.get right.tail.fields l ≡ None) gs f.label n right.fresh e
  fresh_at f d None e =
      low.at f.label ∙ ap (λ o. value_at w o (fin.get low.tail.fields f.label)) (missing_is w fs gs f.label (Some f.node) None d e)
      ∙ ap (λ (m : OpenRow). fin.get m.fields f.label) same_low
      ∙ found_label (λ l. fin.get low'.tail.fields l ≡ None) (missing fs gs) f.label f.node low'.fresh (missing_is' w fs gs f.label (Some f.node) None d e)

  pub rows_rebuilt : IsRowOf fs w y x
  rows_rebuilt = record {
    tail = low.row;
    row = right.row;
    tail_is = low.row_is;
    row_is = right.row_is;
    plain = each_weaker (λ f. found_at fs f.label ≡ Some f.node) (λ f. IsPlain (w f.node)) (λ f d. plain_at f d (found_at gs f.label) refl) fs distinct;
    fresh = each_weaker (λ f. found_at fs f.label ≡ Some f.node) (λ f. fin.get low.row.fields f.label ≡ None) (λ f d. fresh_at f d (found_at gs f.label) refl) fs distinct;
    at = λ l. go l (found_at fs l) (found_at gs l) refl refl;
    same_end = right.same_end ∙ ap (λ (m : OpenRow). m.tail) same_mid ∙ low'.same_end ∙ ap (λ (m : OpenRow). m.tail) (sym same_low) ∙ sym low.same_end;
  }
    where
      -- right.tail at a label
      mid : (l : Label) (o p : Option ℕ) → found_at fs l ≡ o → found_at gs l ≡ p → fin.get right.tail.fields l ≡ value_at w (unless p o) (fin.get low.tail.fields l)
      mid l o p a b =
          ap (λ (m : OpenRow). fin.get m.fields l) same_mid ∙ low'.at l ∙ ap (λ o. value_at w o (fin.get low'.tail.fields l)) (missing_is' w fs gs l o p a b)
          ∙ ap (λ (m : OpenRow). value_at w (unless p o) (fin.get m.fields l)) (sym same_low)

      go : (l : Label) (o p : Option ℕ) → found_at fs l ≡ o → found_at gs l ≡ p → fin.get right.row.fields l ≡ value_at w (found_at fs l) (fin.get low.row.fields l)
      go l None None a b =
          right.at l ∙ ap (λ o. value_at w o (fin.get right.tail.fields l)) b ∙ mid l None None a b
          ∙ sym (ap (λ o. value_at w o (fin.get low.row.fields l)) a ∙ low.at l ∙ ap (λ o. value_at w o (fin.get low.tail.fields l)) (missing_is w fs gs l None None a b))
      go l (Some x) None a b =
          right.at l ∙ ap (λ o. value_at w o (fin.get right.tail.fields l)) b ∙ mid l (Some x) None a b ∙ sym (ap (λ o. value_at w o (fin.get low.row.fields l)) a)
      go l None (Some y) a b =
          right.at l ∙ ap (λ o. value_at w o (fin.get right.tail.fields l)) b
          ∙ sym (ap (λ o. value_at w o (fin.get low.row.fields l)) a ∙ low.at l ∙ ap (λ o. value_at w o (fin.get low.tail.fields l)) (missing_is w fs gs l None (Some y) a b))
      go l (Some x) (Some y) a b =
          right.at l ∙ ap (λ o. value_at w o (fin.get right.tail.fields l)) b ∙ ap plain_of (sym (common_at w fs gs eqs l x y a b)) ∙ sym (ap (λ o. value_at w o (fin.get low.row.fields l)) a)

-- ---- labels that stand once

pub AreFound-from_distinct : (fs : List Field) → IsDistinct fs → AreFound fs
AreFound-from_distinct [] d = tt
AreFound-from_distinct (f ∷ fs) d =
    let ih = AreFound-from_distinct fs d.1 in (
      found_same f fs f.label refl,
      each_weaker (λ g. found_at fs g.label ≡ Some g.node) (λ g. found_at (f ∷ fs) g.label ≡ Some g.node)
          (λ g e. found_other f fs g.label (λ same. none-some g.node (sym d.0 ∙ ap (found_at fs) (sym same) ∙ e)) ∙ e) fs ih,
    )

pub lacks_less : (f : Field) (fs : List Field) (l : Label) → found_at (f ∷ fs) l ≡ None → found_at fs l ≡ None
lacks_less f fs l e = sym (found_other f fs l (λ same. none-some f.node (sym e ∙ found_same f fs l same))) ∙ e

pub lacks_first : (f : Field) (fs gs : List Field) → Each (λ g. found_at (f ∷ fs) g.label ≡ None) gs → found_at gs f.label ≡ None
lacks_first f fs [] e = refl
lacks_first f fs (g ∷ gs) e = found_other g gs f.label (λ same. none-some f.node (sym e.0 ∙ found_same f fs g.label (sym same))) ∙ lacks_first f fs gs e.1

pub IsDistinct-missing : (fs gs : List Field) → IsDistinct fs → IsDistinct (missing fs gs)
IsDistinct-missing [] gs d = tt
IsDistinct-missing (f ∷ fs) gs d = kept (found_at gs f.label) refl (IsDistinct-missing fs gs d.1)
  where
    kept : (o : Option ℕ) → found_at gs f.label ≡ o → IsDistinct (missing fs gs) → IsDistinct (keep_missing o f (missing fs gs))
    kept None e r = (found_at-missing fs gs f.label ∙ ap (λ o. unless o (found_at fs f.label)) e ∙ d.0, r)
    kept (Some n) e r = r
