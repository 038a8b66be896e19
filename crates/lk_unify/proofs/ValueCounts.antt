-- What the values of nodes count. Where each class of which nothing is known is a variable, the counts follow from each other by the
-- shapes.
use Rattle.std.proofs.Common.{◌≡◌, ℕ, ◌+◌, ◌<◌, true, false, List, length, map, refl, sym, ◌∙◌, ap, ap₂, subst, arith}
use Rattle.std.specs.FinMap as fin
use Rattle.lk_classes.specs.Classes.{class_at}
use Rattle.lk_types.proofs.Members.{each_weaker}
use Rattle.lk_types.specs.Each.{Each}
use Rattle.lk_types.specs.declared.ty.RowTail.{RowTail}
use Rattle.lk_types.specs.declared.ty.RowTail.TheVariants.{Closed, Var}
use Rattle.lk_types.specs.declared.ty.Ty.TheVariants as ty
use Rattle.lk_unify.proofs.OpenCounts.{sums_same}
use Rattle.lk_unify.proofs.OpenUnfold.{count_variable}
use Rattle.lk_unify.proofs.RowCounts.{its_rows, plain_count, row_count_fields, row_count_end, entries_by_fields, made_count}
use Rattle.lk_arena.proofs.Sizes.{no_entries}
use Rattle.lk_arena.specs.Counting.{sum_of, counted, AreCounted}
use Rattle.lk_arena.specs.Kinds.{Kind, OfTypes, OfFields, OfEffects, OfUnit, OfNothing, HasKind, AreKinded}
use Rattle.lk_unify.specs.Models.{IsOwn}
use Rattle.lk_unify.specs.Nodes.{count, row_count, end_count, value_count}
use Rattle.lk_arena.specs.Openings.{only_tail, row_type}
use Rattle.lk_arena.specs.Shapes.{shape_at, fields_in, is_loose_shape, IsArena, IsBuilt, IsRowOf, IsDistinct, WeakNodes}
use Rattle.lk_arena.specs.Values.{Value, Plain, OfRow}
use Rattle.lk_arena.specs.declared.node.Field.{Field}
use Rattle.lk_arena.specs.declared.node.Shape.{Shape}
use Rattle.lk_arena.specs.declared.node.Shape.TheVariants.{Free, Open, Empty, Made}
use Rattle.lk_arena.specs.declared.node.Shape.TheVariants as shape

-- ---- ends of rows

entries_count_end : (closed : ℕ) (tail : RowTail) → value_count closed OfEffects (OfRow (only_tail tail)) ≡ end_count closed tail
entries_count_end closed tail =
    let a : length (fin.entries (only_tail tail).fields) ≡ 0 = ap length no_entries in
    omega arith

module _ (closed : ℕ) (kind : ℕ → Kind) (w : ℕ → Value) where
  abbrev pub of_node : ℕ → ℕ
  of_node i = value_count closed (kind i) (w i)

  plain_of_kind : (k : Kind) (x : Value) → k ≡ OfTypes → plain_count closed x ≡ value_count closed k x
  plain_of_kind k (Plain t) e = ap (λ k. value_count closed k (Plain t)) (sym e)
  plain_of_kind k (OfRow m) e = ap (λ k. value_count closed k (OfRow m)) (sym e)

  fields_row : (fs : List Field) (k : Kind) (y x : Value) → k ≡ OfFields → Each (λ f. kind f.node ≡ OfTypes) fs → IsDistinct fs → IsRowOf fs w y x →
      value_count closed OfFields x ≡ sum_of (map (λ f. 1 + of_node f.node) fs) + value_count closed k y
  fields_row fs k y x e kinds d r =
      let row : IsRowOf fs w (OfRow r.tail) (OfRow r.row) = its_rows fs w y x r in
      let a : value_count closed OfFields x ≡ row_count closed (row_type r.row) = ap (value_count closed OfFields) r.row_is in
      let b = row_count_fields closed fs w r.tail r.row d row in
      let c : value_count closed k y ≡ row_count closed (row_type r.tail) = ap₂ (value_count closed) e r.tail_is in
      let f : sum_of (map (λ f. 1 + plain_count closed (w f.node)) fs) ≡ sum_of (map (λ f. 1 + of_node f.node) fs) =
      sums_same (λ (f : Field). 1 + plain_count closed (w f.node)) (λ f. 1 + of_node f.node) fs
      (each_weaker (λ (f : Field). kind f.node ≡ OfTypes) (λ f. 1 + plain_count closed (w f.node) ≡ 1 + of_node f.node)
      (λ f e. ap (λ n. 1 + n) (plain_of_kind (kind f.node) (w f.node) e)) fs kinds) in
      omega arith

  effects_row : (fs : List Field) (k : Kind) (y x : Value) → k ≡ OfEffects → IsDistinct fs → IsRowOf fs w y x → value_count closed OfEffects x ≡ length fs + value_count closed k y
  effects_row fs k y x e d r =
      let row : IsRowOf fs w (OfRow r.tail) (OfRow r.row) = its_rows fs w y x r in
      let a : value_count closed OfEffects x ≡ length (fin.entries r.row.fields) + end_count closed r.row.tail = ap (value_count closed OfEffects) r.row_is in
      let b = entries_by_fields fs w r.tail r.row d row in
      let c : value_count closed k y ≡ length (fin.entries r.tail.fields) + end_count closed r.tail.tail = ap₂ (value_count closed) e r.tail_is in
      let end : end_count closed r.row.tail ≡ end_count closed r.tail.tail = ap (end_count closed) r.same_end in
      omega arith

  -- the value of a shape that says something counts as its parts say
  pub built_count : (k : Kind) (s : Shape) (x : Value) → HasKind kind k s → IsDistinct (fields_in s) → is_loose_shape s ≡ false → IsBuilt s w x
      → value_count closed k x ≡ counted closed k s of_node
  built_count OfTypes (Made h ps) x k d l b = made_count closed kind w h ps x k b
  built_count OfTypes Free x k d l b = let e : true ≡ false = l in cc
  built_count OfTypes Open x k d l b = absurd k
  built_count OfTypes Empty x k d l b = absurd k
  built_count OfTypes (shape.Row fs t) x k d l b = absurd k
  built_count OfFields (Made h ps) x k d l b = absurd k
  built_count OfFields Free x k d l b = absurd k
  built_count OfFields Open x k d l b = let e : true ≡ false = l in cc
  built_count OfFields Empty x k d l b = ap (value_count closed OfFields) b ∙ row_count_end closed Closed
  built_count OfFields (shape.Row fs t) x k d l b = fields_row fs (kind t) (w t) x k.1 k.0 d b
  built_count OfEffects (Made h ps) x k d l b = absurd k
  built_count OfEffects Free x k d l b = absurd k
  built_count OfEffects Open x k d l b = let e : true ≡ false = l in cc
  built_count OfEffects Empty x k d l b = ap (value_count closed OfEffects) b ∙ entries_count_end closed Closed
  built_count OfEffects (shape.Row fs t) x k d l b = effects_row fs (kind t) (w t) x k.1 d b
  built_count OfUnit s x k d l b = refl
  built_count OfNothing s x k d l b = refl

-- ---- counts that follow from the shapes

module _ (shapes : List Shape) (classes : List ℕ) (kind : ℕ → Kind) (arena : IsArena shapes classes) (kinded : AreKinded shapes classes kind) where
  -- the shape of a node's class is one of the node's kind
  class_kind : (i : ℕ) → i < length shapes → HasKind kind (kind i) (shape_at shapes (class_at classes i))
  class_kind i b =
      let c = class_at classes i in
      subst (λ k. HasKind kind k (shape_at shapes c)) (kinded i b).0 (kinded c (arena.named.below i b)).1

  class_value : (v : ℕ → Value) → WeakNodes shapes classes v → (i : ℕ) → i < length shapes → v i ≡ v (class_at classes i)
  class_value v fits i b = fits.respects i (subst (λ n. i < n) (sym arena.named.count) b)

  class_built : (v : ℕ → Value) → WeakNodes shapes classes v → (i : ℕ) → i < length shapes → IsBuilt (shape_at shapes (class_at classes i)) v (v (class_at classes i))
  class_built v fits i b = fits.builds (class_at classes i) (arena.named.below i b) (arena.named.named i b)

  class_distinct : (i : ℕ) → i < length shapes → IsDistinct (fields_in (shape_at shapes (class_at classes i)))
  class_distinct i b = arena.distinct (class_at classes i) (arena.named.below i b)

  module _ (name : ℕ → ℕ) (u : ℕ → Value) (own : IsOwn shapes classes name u) (closed : ℕ) where
    -- of a shape, where a variable stands for what isn't known
    own_shape : (k : Kind) (s : Shape) (x : Value) (n : ℕ) → HasKind kind k s → IsDistinct (fields_in s) → IsBuilt s u x
        → (s ≡ Free → x ≡ Plain (ty.Var n)) → (s ≡ Open → x ≡ OfRow (only_tail (Var n))) → value_count closed k x ≡ counted closed k s (of_node closed kind u)
    own_shape OfTypes Free x n k d b free loose = ap (value_count closed OfTypes) (free refl) ∙ count_variable closed n
    own_shape OfFields Open x n k d b free loose = ap (value_count closed OfFields) (loose refl) ∙ row_count_end closed (Var n)
    own_shape OfEffects Open x n k d b free loose = ap (value_count closed OfEffects) (loose refl) ∙ entries_count_end closed (Var n)
    own_shape OfFields Free x n k d b free loose = absurd k
    own_shape OfEffects Free x n k d b free loose = absurd k
    own_shape OfTypes Open x n k d b free loose = absurd k
    own_shape OfUnit s x n k d b free loose = refl
    own_shape OfNothing s x n k d b free loose = refl
    own_shape k Empty x n h d b free loose = built_count closed kind u k Empty x h d refl b
    own_shape k (Made g ps) x n h d b free loose = built_count closed kind u k (Made g ps) x h d refl b
    own_shape k (shape.Row fs t) x n h d b free loose = built_count closed kind u k (shape.Row fs t) x h d refl b

    pub own_counted : AreCounted (λ p. closed) shapes classes kind (of_node closed kind u)
    own_counted i b =
        let c = class_at classes i in
        let below = arena.named.below i b in
        let named = arena.named.named i b in
        ap (value_count closed (kind i)) (class_value u own.fits i b)
        ∙ own_shape (kind i) (shape_at shapes c) (u c) (name c) (class_kind i b) (class_distinct i b) (class_built u own.fits i b) (own.types c below named) (own.rows c below named)
