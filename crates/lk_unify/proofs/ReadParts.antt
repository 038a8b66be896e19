-- What the class of a node shows of its value, and what its parts can be read with.
use Rattle.std.proofs.Common.{◌≡◌, ℕ, ◌-◌, ◌<◌, List, [], ◌∷◌, length, map, refl, sym, ◌∙◌, ap, subst, arith}
use Rattle.lk_classes.specs.Classes.{class_at}
use Rattle.lk_types.proofs.Members.{each_from_map}
use Rattle.lk_types.specs.Each.{Each}
use Rattle.lk_types.specs.declared.ty.RowTail.TheVariants.{Var}
use Rattle.lk_types.specs.declared.ty.Ty.TheVariants as ty
use Rattle.lk_arena.proofs.EachLemmas.{Each-zip}
use Rattle.lk_arena.specs.Kinds.{Kind, OfTypes, TakesKinds, HasKind}
use Rattle.lk_unify.specs.Models.{IsOwn}
use Rattle.lk_arena.specs.Openings.{only_tail, row_type}
use Rattle.lk_unify.specs.Reading.{CanRead, CanReadParts, name_in, type_in, row_in}
use Rattle.lk_arena.specs.Shapes.{shape_at, parts_of, IsBuilt}
use Rattle.lk_arena.specs.Values.{Value, Plain, OfRow, IsMadeOf}
use Rattle.lk_arena.specs.declared.arena.Arena.{Arena}
use Rattle.lk_arena.specs.declared.node.Head.{Head}
use Rattle.lk_arena.specs.declared.node.Head.TheVariants as head
use Rattle.lk_arena.specs.declared.node.Shape.{Shape}
use Rattle.lk_arena.specs.declared.node.Shape.TheVariants.{Open, Made}

-- ---- the parts that constructors take

all_types : (nodes : Arena) (numbers : List ℕ) (fuel : ℕ) (kind : ℕ → Kind) (ps : List ℕ) → Each (λ k. k ≡ OfTypes) (map kind ps) →
    Each (λ p. CanRead nodes numbers fuel p (kind p)) ps → Each (λ p. CanRead nodes numbers fuel p OfTypes) ps
all_types nodes numbers fuel kind ps t c =
    Each-zip (λ p. kind p ≡ OfTypes) (λ p. CanRead nodes numbers fuel p (kind p)) (λ p. CanRead nodes numbers fuel p OfTypes) (λ p e r. subst (CanRead nodes numbers fuel p) e r) ps
    (each_from_map (λ k. k ≡ OfTypes) kind ps t) c

taken : (nodes : Arena) (numbers : List ℕ) (fuel : ℕ) (kind : ℕ → Kind) (h : Head) (ps : List ℕ) → TakesKinds h (map kind ps) →
    Each (λ p. CanRead nodes numbers fuel p (kind p)) ps → CanReadParts nodes numbers fuel h ps
taken nodes numbers fuel kind head.Int [] t c = tt
taken nodes numbers fuel kind head.Int (p ∷ ps) t c = absurd t
taken nodes numbers fuel kind head.Bool [] t c = tt
taken nodes numbers fuel kind head.Bool (p ∷ ps) t c = absurd t
taken nodes numbers fuel kind head.Text [] t c = tt
taken nodes numbers fuel kind head.Text (p ∷ ps) t c = absurd t
taken nodes numbers fuel kind head.List [] t c = absurd t
taken nodes numbers fuel kind head.List (p ∷ q ∷ ps) t c = absurd t
taken nodes numbers fuel kind head.List (p ∷ []) t c = subst (CanRead nodes numbers fuel p) t c.0
taken nodes numbers fuel kind head.Fields [] t c = absurd t
taken nodes numbers fuel kind head.Fields (p ∷ q ∷ ps) t c = absurd t
taken nodes numbers fuel kind head.Fields (p ∷ []) t c = subst (CanRead nodes numbers fuel p) t c.0
taken nodes numbers fuel kind head.Tags [] t c = absurd t
taken nodes numbers fuel kind head.Tags (p ∷ q ∷ ps) t c = absurd t
taken nodes numbers fuel kind head.Tags (p ∷ []) t c = subst (CanRead nodes numbers fuel p) t c.0
taken nodes numbers fuel kind head.Fun [] t c = absurd t
taken nodes numbers fuel kind head.Fun (p ∷ []) t c = absurd t
taken nodes numbers fuel kind head.Fun (p ∷ r ∷ ps) t c =
    (subst (CanRead nodes numbers fuel p) t.0 c.0, subst (CanRead nodes numbers fuel r) t.1 c.1.0, all_types nodes numbers fuel kind ps t.2 c.1.1)

-- ---- a node by its class

module _ (nodes : Arena) (numbers : List ℕ) (fuel node : ℕ) (k : Kind) (can : CanRead nodes numbers fuel node k) where
  abbrev class : ℕ
  class = class_at nodes.classes node

  class_below : class < length nodes.shapes
  class_below = can.arena.named.below node can.below

  class_named : class_at nodes.classes class ≡ class
  class_named = can.arena.named.named node can.below

  pub class_kind : HasKind can.kind k (shape_at nodes.shapes class)
  class_kind =
      let kinds = can.kinded node can.below in
      subst (λ j. HasKind can.kind j (shape_at nodes.shapes class)) (kinds.0 ∙ can.kind_is) (can.kinded class class_below).1

  parts_can : Each (λ p. CanRead nodes numbers (fuel - 1) p (can.kind p)) (parts_of (shape_at nodes.shapes class))
  parts_can =
      Each-zip (λ p. p < length nodes.shapes) (λ p. can.rank (class_at nodes.classes p) < can.rank class) (λ p. CanRead nodes numbers (fuel - 1) p (can.kind p))
      (λ p b r.
      let room : can.rank class < fuel = can.room in
      record {
        arena = can.arena;
        count = can.count;
        below = b;
        kind = can.kind;
        kinded = can.kinded;
        kind_is = refl;
        rank = can.rank;
        ranked = can.ranked;
        room = omega arith;
      })
      (parts_of (shape_at nodes.shapes class)) (can.arena.nodes class class_below) (can.ranked class class_below class_named)

  -- the parts of a shape that the class has
  pub shape_parts_can : (s : Shape) → shape_at nodes.shapes class ≡ s → Each (λ p. CanRead nodes numbers (fuel - 1) p (can.kind p)) (parts_of s)
  shape_parts_can s is = subst (λ s. Each (λ p. CanRead nodes numbers (fuel - 1) p (can.kind p)) (parts_of s)) is parts_can

  pub shape_kind : (s : Shape) → shape_at nodes.shapes class ≡ s → HasKind can.kind k s
  shape_kind s is = subst (HasKind can.kind k) is class_kind

  module _ (u : ℕ → Value) (own : IsOwn nodes.shapes nodes.classes (name_in numbers) u) where
    same_value : u node ≡ u class
    same_value = own.fits.respects node (subst (λ n. node < n) (sym can.arena.named.count) can.below)

    pub shape_built : (s : Shape) → shape_at nodes.shapes class ≡ s → IsBuilt s u (u node)
    shape_built s is = subst (λ s. IsBuilt s u (u node)) is (subst (IsBuilt (shape_at nodes.shapes class) u) (sym same_value) (own.fits.builds class class_below class_named))

    pub open_value : shape_at nodes.shapes class ≡ Open → u node ≡ OfRow (only_tail (Var (name_in numbers class)))
    open_value is = same_value ∙ own.rows class class_below class_named is

-- ---- types

module _ (nodes : Arena) (numbers : List ℕ) (fuel node : ℕ) (can : CanRead nodes numbers fuel node OfTypes) where
  pub made_can : (h : Head) (ps : List ℕ) → shape_at nodes.shapes (class_at nodes.classes node) ≡ Made h ps → CanReadParts nodes numbers (fuel - 1) h ps
  made_can h ps is = taken nodes numbers (fuel - 1) can.kind h ps (shape_kind nodes numbers fuel node OfTypes can (Made h ps) is) (shape_parts_can nodes numbers fuel node OfTypes can (Made h ps) is)

pub made_list : (v x : Value) → IsMadeOf head.List (v ∷ []) x → type_in x ≡ ty.List (type_in v)
made_list (Plain t) x m = ap type_in m
made_list (OfRow r) x m = absurd m

pub made_fields : (v x : Value) → IsMadeOf head.Fields (v ∷ []) x → type_in x ≡ ty.Fields (row_type (row_in v))
made_fields (Plain t) x m = absurd m
made_fields (OfRow r) x m = ap type_in m

pub made_tags : (v x : Value) → IsMadeOf head.Tags (v ∷ []) x → type_in x ≡ ty.Tags (row_type (row_in v))
made_tags (Plain t) x m = absurd m
made_tags (OfRow r) x m = ap type_in m
