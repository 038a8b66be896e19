-- The values of nodes are in order, where each class of which nothing is known is a variable of its own.
use Rattle.std.proofs.Common.{◌≡◌, ℕ, zero, suc, ◌<◌, List, [], ◌∷◌, length, map, refl, sym, subst, arith}
use Rattle.std.specs.Cmp.Lexicographic.{nat_list_cmp_total}
use Rattle.std.specs.FinMap as fin
use Rattle.std.specs.declared.cmp.Ordering.{Ordering}
use Rattle.std.specs.declared.cmp.Ordering.TheVariants.{Less, Equal, Greater}
use Rattle.lk_classes.specs.Classes.{class_at}
use Rattle.lk_types.proofs.Members.{each_from_map, each_to_map}
use Rattle.lk_types.specs.Each.{Each}
use Rattle.lk_types.specs.Rows.{Label, label_order}
use Rattle.lk_types.specs.declared.ty.RowTail.{RowTail}
use Rattle.lk_types.specs.declared.ty.RowTail.TheVariants.{Closed, Var}
use Rattle.lk_types.specs.declared.ty.Ty.{Ty}
use Rattle.lk_types.specs.declared.ty.Ty.TheVariants as ty
use Rattle.lk_types.specs.declared.ty.Variable.{Variable}
use Rattle.lk_types.specs.declared.ty.Variable.TheVariants as variable
use Rattle.lk_arena.proofs.EachLemmas.{Each-zip}
use Rattle.lk_arena.proofs.RowAlgebra.{RowFields}
use Rattle.lk_arena.proofs.Sizes.{map_with, plain_or, no_entries}
use Rattle.lk_arena.specs.Openings.{OpenRow, only_tail, row_type}
use Rattle.lk_arena.specs.Order.{IsRanked}
use Rattle.lk_arena.specs.Shapes.{shape_at, parts_of, IsArena, IsBuilt, IsRowOf}
use Rattle.lk_arena.specs.Values.{Value, Plain, OfRow, IsMadeOf}
use Rattle.lk_arena.specs.declared.node.Field.{Field}
use Rattle.lk_arena.specs.declared.node.Head.{Head}
use Rattle.lk_arena.specs.declared.node.Head.TheVariants as head
use Rattle.lk_arena.specs.declared.node.Shape.{Shape}
use Rattle.lk_arena.specs.declared.node.Shape.TheVariants.{Free, Open, Empty, Made}
use Rattle.lk_arena.specs.declared.node.Shape.TheVariants as shape
use Rattle.lk_unify.proofs.LabelLists.{effects_sorted, in_order_row, in_order_int, in_order_bool, in_order_text, in_order_variable, in_order_list, in_order_fields, in_order_tags, in_order_function, IsEntryInOrder}
use Rattle.lk_unify.proofs.RowCounts.{its_rows, pick, is_row_with}
use Rattle.lk_unify.specs.Images.{IsImageInOrder}
use Rattle.lk_unify.specs.InOrder.{labels_in_row, AreSorted, IsInOrder}
use Rattle.lk_unify.specs.Models.{IsOwn}
use Rattle.lk_unify.specs.Reading.{effects_in, image_of, row_in, type_in}

-- the types in a value are
abbrev IsValueInOrder : Value → Type 0
IsValueInOrder (Plain t) = IsInOrder t
IsValueInOrder (OfRow m) = Each IsEntryInOrder (fin.entries m.fields)

plain_in_order : (x : Value) → IsValueInOrder x → IsInOrder (plain_or x)
plain_in_order (Plain t) h = h
plain_in_order (OfRow m) h = in_order_int

-- ---- rows

abbrev Entries : Type 0
Entries = List (Label × Ty)

placed : (l : Label) (t : Ty) (x : Label × Ty) (es more : Entries) (o : Ordering) → IsInOrder t → Each IsEntryInOrder (x ∷ es) → Each IsEntryInOrder more
    → Each IsEntryInOrder (pick o ((l, t) ∷ x ∷ es) ((x.0, t) ∷ es) (x ∷ more))
placed l t x es more Less h e ih = (h, e)
placed l t x es more Equal h e ih = (h, e.1)
placed l t x es more Greater h e ih = (e.0, ih)

put_in_order : (l : Label) (t : Ty) (es : Entries) → IsInOrder t → Each IsEntryInOrder es → Each IsEntryInOrder (fin.put label_order l t es)
put_in_order l t [] h e = (h, tt)
put_in_order l t (x ∷ es) h e = placed l t x es (fin.put label_order l t es) (label_order l x.0) h e (put_in_order l t es h e.1)

fields_in_order : (fs : List Field) (w : ℕ → Value) (m : RowFields) → Each (λ f. IsValueInOrder (w f.node)) fs → Each IsEntryInOrder (fin.entries m)
    → Each IsEntryInOrder (fin.entries (map_with fs w m))
fields_in_order [] w m h e = e
fields_in_order (f ∷ fs) w m h e =
    subst (Each IsEntryInOrder) (sym (fin.entries-insert nat_list_cmp_total (map_with fs w m) f.label (plain_or (w f.node))))
    (put_in_order f.label (plain_or (w f.node)) (fin.entries (map_with fs w m)) (plain_in_order (w f.node) h.0) (fields_in_order fs w m h.1 e))

row_in_order : (fs : List Field) (w : ℕ → Value) (y x : Value) → IsRowOf fs w y x → Each (λ f. IsValueInOrder (w f.node)) fs → IsValueInOrder y → IsValueInOrder x
row_in_order fs w y x r h below =
    let tail : Each IsEntryInOrder (fin.entries r.tail.fields) = subst IsValueInOrder r.tail_is below in
    subst IsValueInOrder (sym r.row_is)
    (subst (λ (m : OpenRow). Each IsEntryInOrder (fin.entries m.fields)) (sym (is_row_with fs w r.tail r.row (its_rows fs w y x r))) (fields_in_order fs w r.tail.fields h tail))

end_in_order : (x : Value) (tail : RowTail) → x ≡ OfRow (only_tail tail) → IsValueInOrder x
end_in_order x tail is = subst IsValueInOrder (sym is) (subst (Each IsEntryInOrder) (sym no_entries) tt)

-- ---- constructors

params_in_order : (ts : List Ty) (vs : List Value) → vs ≡ map Plain ts → Each IsValueInOrder vs → Each IsInOrder ts
params_in_order ts vs is h = each_from_map IsValueInOrder Plain ts (subst (Each IsValueInOrder) is h)

made_in_order : (h : Head) (vs : List Value) (x : Value) → IsMadeOf h vs x → Each IsValueInOrder vs → IsValueInOrder x
made_in_order head.Int [] x e all = subst IsValueInOrder (sym e) in_order_int
made_in_order head.Bool [] x e all = subst IsValueInOrder (sym e) in_order_bool
made_in_order head.Text [] x e all = subst IsValueInOrder (sym e) in_order_text
made_in_order head.List (Plain t ∷ []) x e all = subst IsValueInOrder (sym e) (in_order_list t all.0)
made_in_order head.Fields (OfRow m ∷ []) x e all = subst IsValueInOrder (sym e) (in_order_fields m all.0)
made_in_order head.Tags (OfRow m ∷ []) x e all = subst IsValueInOrder (sym e) (in_order_tags m all.0)
made_in_order head.Fun (OfRow m ∷ Plain answer ∷ vs) x e all = subst IsValueInOrder (sym e.4) (in_order_function e.1 e.0 answer (params_in_order e.1 vs e.3 all.1.1) all.1.0)
made_in_order _ _ x e all = absurd e

-- ---- all nodes

module _ (shapes : List Shape) (classes : List ℕ) (rank : ℕ → ℕ) (name : ℕ → ℕ) (u : ℕ → Value) (arena : IsArena shapes classes) (ranked : IsRanked shapes classes rank) (own : IsOwn shapes classes name u) where
  built_in_order : (i : ℕ) (s : Shape) (x : Value) → IsBuilt s u x → (s ≡ Free → x ≡ Plain (ty.Var (name i))) → (s ≡ Open → x ≡ OfRow (only_tail (Var (name i))))
      → Each (λ p. IsValueInOrder (u p)) (parts_of s) → IsValueInOrder x
  built_in_order i Free x b free loose parts = subst IsValueInOrder (sym (free refl)) (in_order_variable (name i))
  built_in_order i Open x b free loose parts = end_in_order x (Var (name i)) (loose refl)
  built_in_order i Empty x b free loose parts = end_in_order x Closed b
  built_in_order i (Made h ps) x b free loose parts = made_in_order h (map u ps) x b (each_to_map IsValueInOrder u ps parts)
  built_in_order i (shape.Row fs t) x b free loose parts =
      row_in_order fs u (u t) x b (each_from_map (λ p. IsValueInOrder (u p)) (λ (f : Field). f.node) fs parts.1) parts.0

  of_class : (i : ℕ) → i < length shapes → IsValueInOrder (u (class_at classes i)) → IsValueInOrder (u i)
  of_class i b h = subst IsValueInOrder (sym (own.fits.respects i (let c : length classes ≡ length shapes = arena.named.count in omega arith))) h

  named_in_order : (n i : ℕ) → i < length shapes → class_at classes i ≡ i → rank i < n → IsValueInOrder (u i)
  named_in_order zero i b named h = absurd (omega arith)
  named_in_order (suc n) i b named h =
      built_in_order i (shape_at shapes i) (u i) (own.fits.builds i b named) (own.types i b named) (own.rows i b named)
      (Each-zip (λ p. rank (class_at classes p) < rank i) (λ p. p < length shapes) (λ p. IsValueInOrder (u p))
      (λ p less below. of_class p below (named_in_order n (class_at classes p) (arena.named.below p below) (arena.named.named p below) (omega arith)))
      (parts_of (shape_at shapes i)) (ranked i b named) (arena.nodes i b))

  value_in_order : (i : ℕ) → i < length shapes → IsValueInOrder (u i)
  value_in_order i b = of_class i b (named_in_order (suc (rank (class_at classes i))) (class_at classes i) (arena.named.below i b) (arena.named.named i b) (omega arith))

  its_type : (x : Value) → IsValueInOrder x → IsInOrder (type_in x)
  its_type (Plain t) h = h
  its_type (OfRow m) h = in_order_int

  pub types_in_order : (nodes : List ℕ) → Each (λ n. n < length shapes) nodes → Each IsInOrder (map (λ n. type_in (u n)) nodes)
  types_in_order [] below = tt
  types_in_order (n ∷ nodes) below = (its_type (u n) (value_in_order n below.0), types_in_order nodes below.1)

  -- ---- as images

  its_row : (x : Value) → IsValueInOrder x → Each AreSorted (labels_in_row (row_type (row_in x)))
  its_row (Plain t) h = in_order_row (only_tail Closed) (subst (Each IsEntryInOrder) (sym no_entries) tt)
  its_row (OfRow m) h = in_order_row m h

  pub image_in_order : (x : Variable) (n : ℕ) → n < length shapes → IsImageInOrder (image_of x (u n))
  image_in_order (variable.Plain m) n below = its_type (u n) (value_in_order n below)
  image_in_order (variable.Row m) n below = its_row (u n) (value_in_order n below)
  image_in_order (variable.Effects m) n below = effects_sorted (effects_in (row_in (u n))).labels
