-- Ways down along which no label stands twice, and rows above them.
use Rattle.std.proofs.Common.{◌≡◌, ◌≢◌, ℕ, zero, suc, ◌<◌, ⊎_elim, Bool, true, false, List, [], ◌∷◌, ◌++◌, length, set, refl, sym, ◌∙◌, ap, subst, arith, Option, Some, None}
use Rattle.std.proofs.Common.{append_assoc, append-nil}
use Rattle.std.proofs.lemmas.Bool.{cases_eq}
use Rattle.std.proofs.lemmas.List.{length-set, get_or-set_other}
use Rattle.std.specs.Prelude.{slice_index_or as get_or}
use Rattle.lk_classes.specs.Classes.{class_at}
use Rattle.lk_types.proofs.Members.{each_both}
use Rattle.lk_types.specs.Each.{Each}
use Rattle.lk_types.specs.Rows.{Label}
use Rattle.lk_arena.proofs.Chains.{or_found, found_at-append, IsDistinct-append}
use Rattle.lk_arena.proofs.EachLemmas.{Each-zip}
use Rattle.lk_arena.proofs.RowAlgebra.{found_same, found_other, lacks_less}
use Rattle.lk_arena.proofs.Weak.{but_start, but_more, distinct_apart}
use Rattle.lk_arena.specs.Shapes.{shape_at, found_at, fields_in, is_fields, is_row_shape, HasFields, IsArena, IsCleanAt, IsDistinct, IsFlatBut}
use Rattle.lk_arena.specs.Ways.{tail_in, IsWay, fields_along, HasWay, HasDistinctWay, IsName, LacksAlong, AreMarked}
use Rattle.lk_arena.specs.declared.node.Field.{Field}
use Rattle.lk_arena.specs.declared.node.Shape.{Shape}
use Rattle.lk_arena.specs.declared.node.Shape.TheVariants.{Free, Open, Empty, Made}
use Rattle.lk_arena.specs.declared.node.Shape.TheVariants as shape

-- ---- labels apart, either way

no_none : (f : Field) (fs : List Field) (l : Label) → l ≡ f.label → found_at (f ∷ fs) l ≡ None → ⊥
no_none f fs l e none = let wrong = sym (found_same f fs l e) ∙ none in cc

others : (x : Field) (ys : List Field) → found_at ys x.label ≡ None → Each (λ y. y.label ≡ x.label → ⊥) ys
others x [] e = tt
others x (y ∷ ys) e = ((λ same. no_none y ys x.label (sym same) e), others x ys (lacks_less y ys x.label e))

pub apart_turned : (xs ys : List Field) → Each (λ x. found_at ys x.label ≡ None) xs → Each (λ y. found_at xs y.label ≡ None) ys
apart_turned [] ys e = all_none ys
  where
    all_none : (ys : List Field) → Each (λ y. found_at [] y.label ≡ None) ys
    all_none [] = tt
    all_none (y ∷ ys) = (refl, all_none ys)
apart_turned (x ∷ xs) ys e =
    Each-zip (λ y. y.label ≡ x.label → ⊥) (λ y. found_at xs y.label ≡ None) (λ y. found_at (x ∷ xs) y.label ≡ None) (λ y n g. found_other x xs y.label n ∙ g) ys
    (others x ys e.0) (apart_turned xs ys e.1)

-- ---- the way

not_both : (b : Bool) → b ≡ true → b ≡ false → ⊥
not_both true e f = let g : true ≡ false = f in cc
not_both false e f = let g : false ≡ true = e in cc

-- a shape of fields is one
pub fields_shape : (s : Shape) → is_fields s ≡ true → s ≡ shape.Row (fields_in s) (tail_in s)
fields_shape (shape.Row fs t) e = refl
fields_shape Free e = let f : false ≡ true = e in cc
fields_shape Open e = let f : false ≡ true = e in cc
fields_shape Empty e = let f : false ≡ true = e in cc
fields_shape (Made h ps) e = let f : false ≡ true = e in cc

pub no_fields : (s : Shape) → ((fs : List Field) (t : ℕ) → s ≡ shape.Row fs t → ⊥) → is_fields s ≡ false
no_fields (shape.Row fs t) not = absurd (not fs t refl)
no_fields Free not = refl
no_fields Open not = refl
no_fields Empty not = refl
no_fields (Made h ps) not = refl

left_none : (a b : Option ℕ) → or_found a b ≡ None → a ≡ None
unfolding or_found
left_none None b e = refl
left_none (Some n) b e = let f : Some n ≡ None = e in cc

distinct_left : (xs ys : List Field) → IsDistinct (xs ++ ys) → IsDistinct xs
distinct_left [] ys d = tt
distinct_left (x ∷ xs) ys d = (left_none (found_at xs x.label) (found_at ys x.label) (sym (found_at-append xs ys x.label) ∙ d.0), distinct_left xs ys d.1)

pub distinct_right : (xs ys : List Field) → IsDistinct (xs ++ ys) → IsDistinct ys
distinct_right [] ys d = d
distinct_right (x ∷ xs) ys d = distinct_right xs ys d.1

-- fields among which the first of a row's own stands already aren't behind them
own_twice : (own rest : List Field) (t : ℕ) → HasFields (shape.Row own t) → Each (λ f. found_at (own ++ rest) f.label ≡ None) own → ⊥
own_twice [] rest t h lacks = h
own_twice (f ∷ fs) rest t h lacks = let e : Some f.node ≡ None = sym (found_same f (fs ++ rest) f.label refl) ∙ lacks.0 in cc

module _ (shapes : List Shape) (classes : List ℕ) where
  pub way_start : (own : List Field) (from : ℕ) → HasWay shapes classes own from own from
  way_start own from = ([], refl, sym (append-nil own))

  -- one class more at its end
  longer : (way : List ℕ) (from c next : ℕ) → c < length shapes → class_at classes c ≡ c → is_fields (shape_at shapes c) ≡ true → class_at classes (tail_in (shape_at shapes c)) ≡ next →
      IsWay shapes classes way from c → IsWay shapes classes (way ++ c ∷ []) from next
  longer [] from c next b n k t is = (is, b, n, k, t)
  longer (d ∷ way) from c next b n k t is = (is.0, is.1, is.2, is.3, longer way (class_at classes (tail_in (shape_at shapes d))) c next b n k t is.4)

  along_more : (way : List ℕ) (c : ℕ) → fields_along shapes (way ++ c ∷ []) ≡ fields_along shapes way ++ fields_in (shape_at shapes c)
  along_more [] c = append-nil (fields_in (shape_at shapes c))
  along_more (d ∷ way) c =
      ap (λ fs. fields_in (shape_at shapes d) ++ fs) (along_more way c) ∙ sym (append_assoc (fields_in (shape_at shapes d)) (fields_along shapes way) (fields_in (shape_at shapes c)))

  pub way_more :
      (own fields more : List Field) (from tail next : ℕ) → tail < length shapes → class_at classes tail ≡ tail → shape_at shapes tail ≡ shape.Row more next →
      HasWay shapes classes own from fields tail → HasWay shapes classes own from (fields ++ more) (class_at classes next)
  way_more own fields more from tail next b n is has = (
    has.0 ++ tail ∷ [],
    longer has.0 from tail (class_at classes next) b n (ap is_fields is) (ap (λ s. class_at classes (tail_in s)) is) has.1,
    ap (λ fs. fs ++ more) has.2 ∙ append_assoc own (fields_along shapes has.0) more ∙ ap (λ fs. own ++ fs) (sym (along_more has.0 tail ∙ ap (λ s. fields_along shapes has.0 ++ fields_in s) is)),
  )

  module _ (arena : IsArena shapes classes) where
    -- a row that goes on along a way
    module _ (c : ℕ) where
      flat_along :
          (way : List ℕ) (fields : List Field) (from tail : ℕ) → IsFlatBut c shapes classes c fields from → IsWay shapes classes way from tail →
          IsDistinct (fields ++ fields_along shapes way) → IsFlatBut c shapes classes c (fields ++ fields_along shapes way) tail
      flat_along [] fields from tail flat is d = rw append-nil (subst (λ t. IsFlatBut c shapes classes c fields t) is flat)
      flat_along (e ∷ way) fields from tail flat is d =
          let more = fields_in (shape_at shapes e) in
          let next = tail_in (shape_at shapes e) in
          let here : shape_at shapes from ≡ shape.Row more next = ap (shape_at shapes) is.0 ∙ fields_shape (shape_at shapes e) is.3 in
          let whole : IsDistinct ((fields ++ more) ++ fields_along shapes way) = rw append_assoc d in
          let lacks : Each (λ f. found_at fields f.label ≡ None) more = apart_turned fields more (distinct_apart fields more (distinct_left (fields ++ more) (fields_along shapes way) whole)) in
          let apart : from ≢ c = λ same.
          (let own_is : shape.Row flat.own flat.first ≡ shape.Row more next = sym flat.shape_is ∙ ap (shape_at shapes) (sym same) ∙ here in
          let mine : flat.own ≡ more = ap fields_in own_is in
          own_twice flat.own flat.rest flat.first (subst HasFields flat.shape_is (arena.filled c flat.row_below))
          (subst (λ fs. Each (λ f. found_at fs f.label ≡ None) flat.own) flat.fields_is (subst (λ gs. Each (λ f. found_at fields f.label ≡ None) gs) (sym mine) lacks))) in
          rw (sym (append_assoc fields more (fields_along shapes way)))
          (flat_along way (fields ++ more) (class_at classes next) tail (but_more c shapes classes arena c fields from flat more next here apart lacks) is.4 whole)

    pub way_clean :
        (way : List ℕ) (from tail : ℕ) → is_row_shape (shape_at shapes tail) ≡ true → is_fields (shape_at shapes tail) ≡ false →
        IsWay shapes classes way from tail → IsDistinct (fields_along shapes way) → Each (IsCleanAt shapes classes) way
    way_clean [] from tail row last is d = tt
    way_clean (c ∷ way) from tail row last is d =
        let own = fields_in (shape_at shapes c) in
        let first = tail_in (shape_at shapes c) in
        let apart : tail ≢ c = λ same. (let e : false ≡ true = sym last ∙ ap (λ t. is_fields (shape_at shapes t)) same ∙ is.3 in cc) in (
          λ named fields. (
            own ++ fields_along shapes way,
            tail,
            flat_along c way own (class_at classes first) tail (but_start c shapes classes arena c own first is.1 (fields_shape (shape_at shapes c) is.3)) is.4 d,
            (row, apart, last),
          ),
          way_clean way (class_at classes first) tail row last is.4 (distinct_right own (fields_along shapes way) d),
        )

    -- a class of fields from which there is a way along which no label stands twice
    pub distinct_clean : (k : ℕ) → HasDistinctWay shapes classes k → IsCleanAt shapes classes k
    distinct_clean k ([], tail, is, row, last, d) = λ named fields. absurd (not_both (is_fields (shape_at shapes k)) fields (ap (λ t. is_fields (shape_at shapes t)) is ∙ last))
    distinct_clean k (c ∷ way, tail, is, row, last, d) = subst (IsCleanAt shapes classes) (sym is.0) (way_clean (c ∷ way) c tail row last (refl, is.1, is.2, is.3, is.4) d).0

  -- a class of fields above a way that has none of their labels
  pub way_above :
      (k : ℕ) (own : List Field) (first : ℕ) → IsName (length shapes) classes k → shape_at shapes k ≡ shape.Row own first → IsDistinct own →
      HasDistinctWay shapes classes (class_at classes first) → LacksAlong shapes classes own (class_at classes first) → HasDistinctWay shapes classes k
  way_above k own first name is d (way, tail, ways, row, last, distinct) lacks = (
    k ∷ way,
    tail,
    (refl, name.0, name.1, ap is_fields is, subst (λ s. IsWay shapes classes way (class_at classes (tail_in s)) tail) (sym is) ways),
    row,
    last,
    subst (λ s. IsDistinct (fields_in s ++ fields_along shapes way)) (sym is) (IsDistinct-append own (fields_along shapes way) d distinct (lacks way tail ways last)),
  )

  -- where there are no fields, no label stands along the way
  pub lacks_end : (labels : List Field) (at : ℕ) → is_fields (shape_at shapes at) ≡ false → LacksAlong shapes classes labels at
  lacks_end labels at e [] tail is last = tt
  lacks_end labels at e (c ∷ way) tail is last = absurd (not_both (is_fields (shape_at shapes c)) is.3 (ap (λ t. is_fields (shape_at shapes t)) (sym is.0) ∙ e))

  pub lacks_row :
      (labels more : List Field) (at next : ℕ) → shape_at shapes at ≡ shape.Row more next → Each (λ f. found_at labels f.label ≡ None) more →
      LacksAlong shapes classes labels (class_at classes next) → LacksAlong shapes classes labels at
  lacks_row labels more at next e each lacks [] tail is last = tt
  lacks_row labels more at next e each lacks (c ∷ way) tail is last =
      let here : shape_at shapes c ≡ shape.Row more next = ap (shape_at shapes) (sym is.0) ∙ e in
      each_both (λ f. found_at labels f.label ≡ None) (fields_in (shape_at shapes c)) (fields_along shapes way) (subst (λ s. Each (λ f. found_at labels f.label ≡ None) (fields_in s)) (sym here) each)
      (lacks way tail (subst (λ s. IsWay shapes classes way (class_at classes (tail_in s)) tail) here is.4) last)

-- ---- marks

-- how many classes aren't marked
abbrev pub unmarked : List Bool → ℕ
unmarked [] = 0
unmarked (true ∷ marks) = unmarked marks
unmarked (false ∷ marks) = suc (unmarked marks)

pub unmarked-set : (marks : List Bool) (i : ℕ) → i < length marks → get_or marks i true ≡ false → unmarked (set marks i true) < unmarked marks
unmarked-set [] i h e = absurd (omega arith)
unmarked-set (false ∷ bs) zero h e = omega arith
unmarked-set (true ∷ bs) zero h e = let f : true ≡ false = e in cc
unmarked-set (false ∷ bs) (suc i) h e = let t = unmarked-set bs i (omega arith) e in omega arith
unmarked-set (true ∷ bs) (suc i) h e = unmarked-set bs i (omega arith) e

module _ (shapes : List Shape) (classes : List ℕ) where
  pub marks_more : (marks : List Bool) (i : ℕ) → i < length shapes → AreMarked shapes classes marks → HasDistinctWay shapes classes i → AreMarked shapes classes (set marks i true)
  marks_more marks i b are way = record {
    count = length-set marks i true ∙ are.count;
    ways = λ k e.
        ⊎_elim (λ (is : k ≡ i). subst (HasDistinctWay shapes classes) (sym is) way)
        (λ (ne : k ≡ i → ⊥). are.ways k (sym (get_or-set_other marks i k true false ne) ∙ e)) (cases_eq k i);
  }
