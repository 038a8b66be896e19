-- Rows of nodes read down their tails.
use Rattle.std.proofs.Common.{◌≡◌, ℕ, zero, suc, ◌-◌, ◌<◌, append_assoc, Bool, true, false, List, [], ◌∷◌, ◌++◌, length, get_or, map, drop, refl, sym, ◌∙◌, ap, subst, arith, Option, Some, None, cond}
use Rattle.std.specs.FinMap as fin
use Rattle.std.specs.List.{filter}
use Rattle.std.specs.Prelude.{is_some}
use Rattle.std.specs.Str.{bytes_eq}
use Rattle.lk_classes.specs.Classes.{class_at}
use Rattle.lk_types.proofs.Members.{each_from_map}
use Rattle.lk_types.specs.Each.{Each}
use Rattle.lk_types.specs.Rows.{Label, label_order, EffectSet}
use Rattle.lk_types.specs.declared.ty.Effect.{Effect}
use Rattle.lk_types.specs.declared.ty.Effect.TheVariants.{Local, Move, Print, Rec, Scan, Trap, Write}
use Rattle.lk_types.specs.declared.ty.RowTail.{RowTail}
use Rattle.lk_types.specs.declared.ty.RowTail.TheVariants.{Closed, Var}
use Rattle.lk_types.specs.declared.ty.Ty.{Ty}
use Rattle.lk_types.specs.declared.ty.Ty.TheVariants as ty
use Rattle.lk_arena.proofs.EachLemmas.{Each-zip}
use Rattle.lk_unify.proofs.EffectSets.{set_in-effect_row}
use Rattle.lk_unify.proofs.ReadParts.{shape_parts_can, shape_kind, shape_built, open_value}
use Rattle.lk_arena.proofs.RowAlgebra.{same_rows}
use Rattle.lk_arena.proofs.Sizes.{plain_or, row_with, get-row_with}
use Rattle.lk_arena.specs.Kinds.{OfTypes, OfFields, OfEffects}
use Rattle.lk_unify.specs.Models.{IsOwn}
use Rattle.lk_arena.specs.Openings.{OpenRow, only_tail, effects_type}
use Rattle.lk_unify.specs.Reading.{CanRead, CanStand, name_in, type_in, row_in, effects_in, with_entry, with_fields}
use Rattle.lk_arena.specs.Shapes.{shape_at, found_at, plain_of, value_at, IsPlain, IsRowOf, IsDistinct, fields_in}
use Rattle.lk_arena.specs.Values.{Value, Plain, OfRow, IsMadeOf, effect_row}
use Rattle.lk_arena.specs.declared.arena.Arena.{Arena}
use Rattle.lk_arena.specs.declared.node.Field.{Field}
use Rattle.lk_arena.specs.declared.node.Head.TheVariants as head
use Rattle.lk_arena.specs.declared.node.Shape.{Shape}
use Rattle.lk_arena.specs.declared.node.Shape.TheVariants.{Free, Open, Empty, Made}
use Rattle.lk_arena.specs.declared.node.Shape.TheVariants as shape

-- ---- the value of fields before a row

type_is : (x : Value) → plain_or x ≡ type_in x
type_is (Plain t) = refl
type_is (OfRow m) = refl

fields_same : (fs : List Field) (u : ℕ → Value) (m : OpenRow) → row_with fs u m ≡ with_fields fs u m
fields_same [] u m = refl
fields_same (f ∷ fs) u m = ap (λ t. with_entry (row_with fs u m) f.label t) (type_is (u f.node)) ∙ ap (λ r. with_entry r f.label (type_in (u f.node))) (fields_same fs u m)

abbrev has_label : OpenRow → Label → Bool
has_label m l = is_some (fin.get m.fields l)

module _ (fs : List Field) (u : ℕ → Value) (y x : Value) (r : IsRowOf fs u y x) where
  tail_row : row_in y ≡ r.tail
  tail_row = ap row_in r.tail_is

  whole_row : row_in x ≡ r.row
  whole_row = ap row_in r.row_is

  pub row_end : (row_in y).tail ≡ (row_in x).tail
  row_end = ap (λ (m : OpenRow). m.tail) tail_row ∙ sym r.same_end ∙ ap (λ (m : OpenRow). m.tail) (sym whole_row)

  found : (l : Label) → fin.get (row_in x).fields l ≡ value_at u (found_at fs l) (fin.get (row_in y).fields l)
  found l = ap (λ (m : OpenRow). fin.get m.fields l) whole_row ∙ r.at l ∙ ap (λ (m : OpenRow). value_at u (found_at fs l) (fin.get m.fields l)) (sym tail_row)

  pub below_has : (l : Label) → is_some (found_at fs l) ≡ false → has_label (row_in y) l ≡ has_label (row_in x) l
  below_has l e = by_field (found_at fs l) refl
    where
      by_field : (o : Option ℕ) → found_at fs l ≡ o → has_label (row_in y) l ≡ has_label (row_in x) l
      by_field None is = sym (ap is_some (found l ∙ ap (λ o. value_at u o (fin.get (row_in y).fields l)) is))
      by_field (Some n) is = let f : true ≡ false = sym (ap is_some is) ∙ e in absurd (cc)

  pub stands : CanStand fs u (row_in y) → row_in x ≡ with_fields fs u (row_in y)
  stands c =
      same_rows (row_in x) (row_with fs u (row_in y)) (λ l. found l ∙ sym (get-row_with fs u (row_in y) r.plain l)) (sym row_end)
      ∙ fields_same fs u (row_in y)

  pub can_stand : IsDistinct fs → CanStand fs u (row_in y)
  can_stand d = record {
    plain = r.plain;
    fresh = subst (λ (m : OpenRow). Each (λ f. fin.get m.fields f.label ≡ None) fs) (sym tail_row) r.fresh;
    distinct = d;
  }

some_plain : (x : Value) → IsPlain x → is_some (plain_of x) ≡ true
some_plain (Plain t) p = refl
some_plain (OfRow m) p = let f : OfRow m ≡ Plain p.0 = p.1 in cc

its_plain : (fs : List Field) (u : ℕ → Value) (l : Label) (below : Option Ty) → Each (λ f. IsPlain (u f.node)) fs → is_some (found_at fs l) ≡ true → is_some (value_at u (found_at fs l) below) ≡ true
its_plain [] u l below p e = let f : false ≡ true = e in absurd (cc)
its_plain (f ∷ fs) u l below p e = by_test (bytes_eq l f.label) e (its_plain fs u l below p.1)
  where
    by_test : (b : Bool) → is_some (cond b (Some f.node) (found_at fs l)) ≡ true → (is_some (found_at fs l) ≡ true → is_some (value_at u (found_at fs l) below) ≡ true) →
        is_some (value_at u (cond b (Some f.node) (found_at fs l)) below) ≡ true
    by_test true e ih = some_plain (u f.node) p.0
    by_test false e ih = ih e

pub own_has : (fs : List Field) (u : ℕ → Value) (y x : Value) → IsRowOf fs u y x → (l : Label) → is_some (found_at fs l) ≡ true → true ≡ has_label (row_in x) l
own_has fs u y x r l e =
    sym (ap is_some (found fs u y x r l) ∙ its_plain fs u l (fin.get (row_in y).fields l) r.plain e)

-- ---- down a row of effects

module _ (nodes : Arena) (numbers : List ℕ) (fuel node : ℕ) (can : CanRead nodes numbers fuel node OfEffects) (u : ℕ → Value) (own : IsOwn nodes.shapes nodes.classes (name_in numbers) u) where
  abbrev its_shape : Shape
  its_shape = shape_at nodes.shapes (class_at nodes.classes node)

  effects_row : (fs : List Field) (t : ℕ) → its_shape ≡ shape.Row fs t → IsRowOf fs u (u t) (u node)
  effects_row fs t is = shape_built nodes numbers fuel node OfEffects can u own (shape.Row fs t) is

  pub effects_end : (fs : List Field) (t : ℕ) → its_shape ≡ shape.Row fs t → (row_in (u t)).tail ≡ (row_in (u node)).tail
  effects_end fs t is = row_end fs u (u t) (u node) (effects_row fs t is)

  pub effect_own : (fs : List Field) (t : ℕ) (l : Label) → its_shape ≡ shape.Row fs t → is_some (found_at fs l) ≡ true → true ≡ has_label (row_in (u node)) l
  effect_own fs t l is e = own_has fs u (u t) (u node) (effects_row fs t is) l e

  pub effect_below : (fs : List Field) (t : ℕ) (l : Label) → its_shape ≡ shape.Row fs t → is_some (found_at fs l) ≡ false → has_label (row_in (u t)) l ≡ has_label (row_in (u node)) l
  effect_below fs t l is e = below_has fs u (u t) (u node) (effects_row fs t is) l e

  no_label : (tail : RowTail) (l : Label) → u node ≡ OfRow (only_tail tail) → false ≡ has_label (row_in (u node)) l
  no_label tail l is = sym (ap (λ x. has_label (row_in x) l) is ∙ ap is_some (fin.get-empty label_order l))

  pub effect_none : (l : Label) → ((fs : List Field) (t : ℕ) → its_shape ≡ shape.Row fs t → ⊥) → false ≡ has_label (row_in (u node)) l
  effect_none l n = by_shape its_shape refl
    where
      by_shape : (s : Shape) → its_shape ≡ s → false ≡ has_label (row_in (u node)) l
      by_shape Free is = absurd (shape_kind nodes numbers fuel node OfEffects can Free is)
      by_shape Open is = no_label (Var (name_in numbers (class_at nodes.classes node))) l (open_value nodes numbers fuel node OfEffects can u own is)
      by_shape Empty is = no_label Closed l (shape_built nodes numbers fuel node OfEffects can u own Empty is)
      by_shape (Made h ps) is = absurd (shape_kind nodes numbers fuel node OfEffects can (Made h ps) is)
      by_shape (shape.Row fs t) is = absurd (n fs t is)

-- ---- the effects one after another

abbrev pub every_effect : List Effect
every_effect = Local ∷ Move ∷ Print ∷ Rec ∷ Scan ∷ Trap ∷ Write ∷ []

drop_now : (xs : List Effect) (i : ℕ) (x d : Effect) → i < length xs → get_or xs i d ≡ x → drop i xs ≡ x ∷ drop (suc i) xs
drop_now [] i x d h is = absurd (omega arith)
drop_now (y ∷ ys) zero x d h is = ap (λ z. z ∷ ys) is
drop_now (y ∷ ys) (suc i) x d h is = drop_now ys i x d (omega arith) is

module _ (s : EffectSet) (xs labels : List Effect) (i j : ℕ) (is : j ≡ suc i) (x d : Effect) (h : i < length xs) (at : get_or xs i d ≡ x) where
  next : drop i xs ≡ x ∷ drop j xs
  next = drop_now xs i x d h at ∙ ap (λ k. x ∷ drop k xs) (sym is)

  pub effect_taken : s x ≡ true → labels ++ filter s (drop i xs) ≡ (labels ++ x ∷ []) ++ filter s (drop j xs)
  effect_taken t = ap (λ ys. labels ++ filter s ys) next ∙ ap (λ b. labels ++ cond b (x ∷ filter s (drop j xs)) (filter s (drop j xs))) t ∙ sym (append_assoc labels (x ∷ []) (filter s (drop j xs)))

  pub effect_left : s x ≡ false → labels ++ filter s (drop i xs) ≡ labels ++ filter s (drop j xs)
  effect_left t = ap (λ ys. labels ++ filter s ys) next ∙ ap (λ b. labels ++ cond b (x ∷ filter s (drop j xs)) (filter s (drop j xs))) t

-- ---- rows of fields

module _ (nodes : Arena) (numbers : List ℕ) (fuel node : ℕ) (can : CanRead nodes numbers fuel node OfFields) where
  abbrev the_shape : Shape
  the_shape = shape_at nodes.shapes (class_at nodes.classes node)

  pub fields_can : (fs : List Field) (t : ℕ) → the_shape ≡ shape.Row fs t → Each (λ f. CanRead nodes numbers (fuel - 1) f.node OfTypes) fs
  fields_can fs t is =
      Each-zip (λ f. can.kind f.node ≡ OfTypes) (λ f. CanRead nodes numbers (fuel - 1) f.node (can.kind f.node)) (λ f. CanRead nodes numbers (fuel - 1) f.node OfTypes)
      (λ f e c. subst (CanRead nodes numbers (fuel - 1) f.node) e c) fs (shape_kind nodes numbers fuel node OfFields can (shape.Row fs t) is).0
      (each_from_map (λ p. CanRead nodes numbers (fuel - 1) p (can.kind p)) (λ f. f.node) fs (shape_parts_can nodes numbers fuel node OfFields can (shape.Row fs t) is).1)

  module _ (u : ℕ → Value) (own : IsOwn nodes.shapes nodes.classes (name_in numbers) u) where
    pub fields_open : the_shape ≡ Open → only_tail (Var (name_in numbers (class_at nodes.classes node))) ≡ row_in (u node)
    fields_open is = ap row_in (sym (open_value nodes numbers fuel node OfFields can u own is))

    pub fields_none : (the_shape ≡ Open → ⊥) → ((fs : List Field) (t : ℕ) → the_shape ≡ shape.Row fs t → ⊥) → only_tail Closed ≡ row_in (u node)
    fields_none not_open n = by_shape the_shape refl
      where
        by_shape : (s : Shape) → the_shape ≡ s → only_tail Closed ≡ row_in (u node)
        by_shape Free is = absurd (shape_kind nodes numbers fuel node OfFields can Free is)
        by_shape Open is = absurd (not_open is)
        by_shape Empty is = ap row_in (sym (shape_built nodes numbers fuel node OfFields can u own Empty is))
        by_shape (Made h ps) is = absurd (shape_kind nodes numbers fuel node OfFields can (Made h ps) is)
        by_shape (shape.Row fs t) is = absurd (n fs t is)

    -- the row of the tail with the own fields
    pub fields_row : (fs : List Field) (t : ℕ) → the_shape ≡ shape.Row fs t → CanStand fs u (row_in (u t)) × (row_in (u node) ≡ with_fields fs u (row_in (u t)))
    fields_row fs t is =
        let row : IsRowOf fs u (u t) (u node) = shape_built nodes numbers fuel node OfFields can u own (shape.Row fs t) is in
        let distinct : IsDistinct fs = ap_distinct (can.arena.distinct (class_at nodes.classes node) (can.arena.named.below node can.below)) in
        let c = can_stand fs u (u t) (u node) row distinct in
        (c, stands fs u (u t) (u node) row c)
      where
        ap_distinct : IsDistinct (fields_in the_shape) → IsDistinct fs
        ap_distinct d = subst (λ s. IsDistinct (fields_in s)) is d

-- ---- one field after another, from the last

with_fields-drop : (fs : List Field) (u : ℕ → Value) (m : OpenRow) (i : ℕ) (d : Field) → i < length fs →
    with_fields (drop i fs) u m ≡ with_entry (with_fields (drop (suc i) fs) u m) (get_or fs i d).label (type_in (u (get_or fs i d).node))
with_fields-drop [] u m i d h = absurd (omega arith)
with_fields-drop (f ∷ fs) u m zero d h = refl
with_fields-drop (f ∷ fs) u m (suc i) d h = with_fields-drop fs u m i d (omega arith)

-- the field f at the place i
module _ (fs : List Field) (u : ℕ → Value) (m : OpenRow) (i j : ℕ) (is : j ≡ suc i) (h : i < length fs) (f : Field) (at : f ≡ get_or fs i f) where
  pub next_row : with_entry (with_fields (drop j fs) u m) f.label (type_in (u f.node)) ≡ with_fields (drop i fs) u m
  next_row =
      ap (λ k. with_entry (with_fields (drop k fs) u m) f.label (type_in (u f.node))) is
      ∙ ap (λ g. with_entry (with_fields (drop (suc i) fs) u m) g.label (type_in (u g.node))) at
      ∙ sym (with_fields-drop fs u m i f h)

-- ---- functions

all_plain : (ts : List Ty) → ts ≡ map type_in (map Plain ts)
all_plain [] = refl
all_plain (t ∷ ts) = ap (λ r. t ∷ r) (all_plain ts)

pub made_function : (m r : Value) (vs : List Value) (x : Value) → IsMadeOf head.Fun (m ∷ r ∷ vs) x → type_in x ≡ ty.Fun (map type_in vs) (effects_type (effects_in (row_in m))) (type_in r)
made_function (Plain t) r vs x e = absurd e
made_function (OfRow m) (OfRow r) vs x e = absurd e
made_function (OfRow m) (Plain r) vs x e =
    let labels : e.0.labels ≡ (effects_in (effect_row e.0)).labels = (λ i x. sym (set_in-effect_row e.0 x) i) in
    let effects : e.0 ≡ effects_in m = (λ i. record { labels = labels i; tail = e.0.tail }) ∙ ap effects_in (sym e.2) in
    ap type_in e.4 ∙ ap (λ ps. ty.Fun ps (effects_type e.0) r) (all_plain e.1 ∙ ap (map type_in) (sym e.3)) ∙ ap (λ s. ty.Fun (map type_in vs) (effects_type s) r) effects
