-- Fields before fields before a row are fields before that row, and a label that stands in both has no value.
use Rattle.std.proofs.Common.{◌≡◌, ℕ, true, false, List, [], ◌∷◌, ◌++◌, inl, inr, ⊎_elim, map, refl, sym, ◌∙◌, ap, Option, Some, None}
use Rattle.std.specs.FinMap as fin
use Rattle.std.specs.Prelude.{IsSome}
use Rattle.lk_types.proofs.Members.{each_both, each_front, each_weaker}
use Rattle.lk_types.specs.Each.{Each, OneOf}
use Rattle.lk_types.specs.Rows.{Label}
use Rattle.lk_types.specs.declared.ty.RowTail.TheVariants.{Closed}
use Rattle.lk_types.specs.declared.ty.Ty.{Ty}
use Rattle.lk_arena.proofs.EachLemmas.{Each-zip}
use Rattle.lk_arena.proofs.Heads.{made_plain}
use Rattle.lk_arena.proofs.RowAlgebra.{label_cases, found_here, found_below, found_prop, found_label, plain_some, row_same, same_rows, AreFound-from_distinct, lacks_first, lacks_less}
use Rattle.lk_arena.specs.Openings.{OpenRow, only_tail}
use Rattle.lk_arena.specs.Shapes.{found_at, value_at, IsPlain, IsRowOf, IsBuilt, IsDistinct, is_row_shape}
use Rattle.lk_arena.specs.Values.{Value, Plain, OfRow}
use Rattle.lk_arena.specs.declared.node.Field.{Field}
use Rattle.lk_arena.specs.declared.node.Shape.{Shape}
use Rattle.lk_arena.specs.declared.node.Shape.TheVariants.{Free, Open, Empty, Made}
use Rattle.lk_arena.specs.declared.node.Shape.TheVariants as shape

unfoldable pub or_found : Option ℕ → Option ℕ → Option ℕ
or_found None o = o
or_found (Some n) o = Some n

pub found_at-append : (xs ys : List Field) (l : Label) → found_at (xs ++ ys) l ≡ or_found (found_at xs l) (found_at ys l)
unfolding or_found
found_at-append [] ys l = refl
found_at-append (x ∷ xs) ys l =
    let ih = found_at-append xs ys l in
    ⊎_elim (λ e. found_here x (xs ++ ys) l e.0 ∙ sym (ap (λ o. or_found o (found_at ys l)) (found_here x xs l e.0)))
    (λ e. found_below x (xs ++ ys) l e ∙ ih ∙ sym (ap (λ o. or_found o (found_at ys l)) (found_below x xs l e))) (label_cases l x.label)

found_first : (xs ys : List Field) (l : Label) (n : ℕ) → found_at xs l ≡ Some n → found_at (xs ++ ys) l ≡ Some n
unfolding or_found
found_first xs ys l n e = found_at-append xs ys l ∙ ap (λ o. or_found o (found_at ys l)) e

found_second : (xs ys : List Field) (l : Label) → found_at xs l ≡ None → found_at (xs ++ ys) l ≡ found_at ys l
unfolding or_found
found_second xs ys l e = found_at-append xs ys l ∙ ap (λ o. or_found o (found_at ys l)) e

pub IsDistinct-append : (xs ys : List Field) → IsDistinct xs → IsDistinct ys → Each (λ f. found_at xs f.label ≡ None) ys → IsDistinct (xs ++ ys)
IsDistinct-append [] ys d e lacks = e
IsDistinct-append (x ∷ xs) ys d e lacks = (
  found_second xs ys x.label d.0 ∙ lacks_first x xs ys lacks,
  IsDistinct-append xs ys d.1 e (each_weaker (λ f. found_at (x ∷ xs) f.label ≡ None) (λ f. found_at xs f.label ≡ None) (λ f. lacks_less x xs f.label) ys lacks),
)

module _ (xs ys : List Field) (w : ℕ → Value) (x y z : Value) (upper : IsRowOf xs w y x) (lower : IsRowOf ys w z y) where
  middle : upper.tail ≡ lower.row
  middle = row_same upper.tail lower.row (sym upper.tail_is ∙ lower.row_is)

  at_middle : (l : Label) → fin.get upper.tail.fields l ≡ value_at w (found_at ys l) (fin.get lower.tail.fields l)
  at_middle l = ap (λ (m : OpenRow). fin.get m.fields l) middle ∙ lower.at l

  -- a label of the upper fields is not in the lower row
  lower_lacks : (l : Label) → fin.get upper.tail.fields l ≡ None → fin.get lower.tail.fields l ≡ None
  lower_lacks l e = go (found_at ys l) refl
    where
      go : (o : Option ℕ) → found_at ys l ≡ o → fin.get lower.tail.fields l ≡ None
      go None is = sym (at_middle l ∙ ap (λ o. value_at w o (fin.get lower.tail.fields l)) is) ∙ e
      go (Some n) is = absurd (plain_some (w n) (found_prop (λ n. IsPlain (w n)) ys l n lower.plain is)
          (sym (at_middle l ∙ ap (λ o. value_at w o (fin.get lower.tail.fields l)) is) ∙ e))

  pub IsRowOf-append : IsRowOf (xs ++ ys) w z x
  unfolding or_found
  IsRowOf-append = record {
    tail = lower.tail;
    row = upper.row;
    tail_is = lower.tail_is;
    row_is = upper.row_is;
    plain = each_both (λ f. IsPlain (w f.node)) xs ys upper.plain lower.plain;
    fresh = each_both (λ f. fin.get lower.tail.fields f.label ≡ None) xs ys
        (each_weaker (λ f. fin.get upper.tail.fields f.label ≡ None) (λ f. fin.get lower.tail.fields f.label ≡ None) (λ f. lower_lacks f.label) xs upper.fresh) lower.fresh;
    at = λ l. go l (found_at xs l) refl;
    same_end = upper.same_end ∙ ap (λ (m : OpenRow). m.tail) middle ∙ lower.same_end;
  }
    where
      go : (l : Label) (o : Option ℕ) → found_at xs l ≡ o → fin.get upper.row.fields l ≡ value_at w (found_at (xs ++ ys) l) (fin.get lower.tail.fields l)
      go l None is =
          upper.at l ∙ ap (λ o. value_at w o (fin.get upper.tail.fields l)) is ∙ at_middle l
          ∙ sym (ap (λ o. value_at w o (fin.get lower.tail.fields l)) (found_second xs ys l is))
      go l (Some n) is =
          upper.at l ∙ ap (λ o. value_at w o (fin.get upper.tail.fields l)) is ∙ sym (ap (λ o. value_at w o (fin.get lower.tail.fields l)) (found_first xs ys l n is))

  -- a label that stands in both has no value
  pub labels_apart : IsDistinct ys → OneOf (λ f. IsSome (found_at xs f.label)) ys → ⊥
  labels_apart distinct one = some_of ys (AreFound-from_distinct ys distinct) one
    where
      clash : (f : Field) (o : Option ℕ) → found_at xs f.label ≡ o → IsSome o → found_at ys f.label ≡ Some f.node → ⊥
      clash f None is s d = let e : false ≡ true = s in cc
      clash f (Some n) is s d =
          plain_some (w f.node) (found_prop (λ n. IsPlain (w n)) ys f.label f.node lower.plain d)
          (sym (at_middle f.label ∙ ap (λ o. value_at w o (fin.get lower.tail.fields f.label)) d) ∙ found_label (λ l. fin.get upper.tail.fields l ≡ None) xs f.label n upper.fresh is)

      some_of : (fs : List Field) → Each (λ f. found_at ys f.label ≡ Some f.node) fs → OneOf (λ f. IsSome (found_at xs f.label)) fs → ⊥
      some_of [] d o = o
      some_of (f ∷ fs) d (inl s) = clash f (found_at xs f.label) refl s d.0
      some_of (f ∷ fs) d (inr o) = some_of fs d.1 o

pub IsRowOf-nil : (w : ℕ → Value) (m : OpenRow) (x : Value) → x ≡ OfRow m → IsRowOf [] w x x
IsRowOf-nil w m x e = record { tail = m; row = m; tail_is = e; row_is = e; plain = tt; fresh = tt; at = λ l. refl; same_end = refl }

pub IsRowOf-nil_same : (w : ℕ → Value) (y x : Value) → IsRowOf [] w y x → x ≡ y
IsRowOf-nil_same w y x r = r.row_is ∙ ap OfRow (same_rows r.row r.tail r.at r.same_end) ∙ sym r.tail_is

-- the value of a row is a row
pub row_value : (s : Shape) (w : ℕ → Value) (x : Value) → is_row_shape s ≡ true → IsBuilt s w x → (m : OpenRow) × (x ≡ OfRow m)
row_value Free w x e b = let f : false ≡ true = e in cc
row_value Open w x e b = b
row_value Empty w x e b = (only_tail Closed, b)
row_value (Made h ps) w x e b = let f : false ≡ true = e in cc
row_value (shape.Row fs t) w x e b = (b.row, b.row_is)

-- ---- types and rows apart

pub not_row_value : (s : Shape) (w : ℕ → Value) (x : Value) → is_row_shape s ≡ false → IsBuilt s w x → (t : Ty) × (x ≡ Plain t)
not_row_value Free w x e b = b
not_row_value Open w x e b = let f : true ≡ false = e in cc
not_row_value Empty w x e b = let f : true ≡ false = e in cc
not_row_value (Made h ps) w x e b = made_plain h (map w ps) x b
not_row_value (shape.Row fs t) w x e b = let f : true ≡ false = e in cc

-- ---- fields before a row, of fields before a row

module _ (xs ys : List Field) (w : ℕ → Value) (x y z : Value) (whole : IsRowOf (xs ++ ys) w z x) (lower : IsRowOf ys w z y) (apart : Each (λ f. found_at ys f.label ≡ None) xs) where
  same_tails : whole.tail ≡ lower.tail
  same_tails = row_same whole.tail lower.tail (sym whole.tail_is ∙ lower.tail_is)

  pub IsRowOf-front : IsRowOf xs w y x
  IsRowOf-front = record {
    tail = lower.row;
    row = whole.row;
    tail_is = lower.row_is;
    row_is = whole.row_is;
    plain = each_front (λ f. IsPlain (w f.node)) xs ys whole.plain;
    fresh = Each-zip (λ f. fin.get whole.tail.fields f.label ≡ None) (λ f. found_at ys f.label ≡ None) (λ f. fin.get lower.row.fields f.label ≡ None)
        (λ f a b. lower.at f.label ∙ ap (λ o. value_at w o (fin.get lower.tail.fields f.label)) b ∙ ap (λ (m : OpenRow). fin.get m.fields f.label) (sym same_tails) ∙ a)
        xs (each_front (λ f. fin.get whole.tail.fields f.label ≡ None) xs ys whole.fresh) apart;
    at = λ l. go l (found_at xs l) refl;
    same_end = whole.same_end ∙ ap (λ (m : OpenRow). m.tail) same_tails ∙ sym lower.same_end;
  }
    where
      go : (l : Label) (o : Option ℕ) → found_at xs l ≡ o → fin.get whole.row.fields l ≡ value_at w (found_at xs l) (fin.get lower.row.fields l)
      go l None is =
          whole.at l ∙ ap (λ o. value_at w o (fin.get whole.tail.fields l)) (found_second xs ys l is) ∙ ap (λ (m : OpenRow). value_at w (found_at ys l) (fin.get m.fields l)) same_tails
          ∙ sym (ap (λ o. value_at w o (fin.get lower.row.fields l)) is ∙ lower.at l)
      go l (Some n) is =
          whole.at l ∙ ap (λ o. value_at w o (fin.get whole.tail.fields l)) (found_first xs ys l n is) ∙ sym (ap (λ o. value_at w o (fin.get lower.row.fields l)) is)
