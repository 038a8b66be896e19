-- Nodes that are used again: what they were made for determines their values, so they serve as well as new ones.
use Rattle.std.proofs.Common.{◌≡◌, ℕ, ◌<◌, true, false, ◌⊎◌, inl, inr, ⊎_elim, List, [], ◌∷◌, length, map, refl, sym, ◌∙◌, ap, subst, arith, Some, cond}
use Rattle.std.specs.BTreeMap.{get, is_at}
use Rattle.std.specs.Ordering.{nat_cmp}
use Rattle.std.proofs.lemmas.Bool.{cases_Bool}
use Rattle.std.proofs.lemmas.Option.{same_Some}
use Rattle.lk_types.specs.declared.ty.Ty.{Ty}
use Rattle.lk_types.specs.declared.ty.Ty.TheVariants as ty
use Rattle.lk_types.specs.declared.ty.Variable.{Variable}
use Rattle.lk_unify.proofs.EffectSets.{same_set}
use Rattle.lk_unify.proofs.LoadKinds.{put, kinded_nodes, new_kind, old_kind}
use Rattle.lk_unify.proofs.LoadSteps.{added_arena, added_back, added_covers, added_below, added_built, added_made, added_node, one_longer, same_names, weak}
use Rattle.lk_unify.proofs.LoadTypes.{plains_once}
use Rattle.lk_unify.proofs.RowsBefore.{before_once}
use Rattle.lk_arena.proofs.RowAlgebra.{row_same}
use Rattle.lk_arena.specs.Kinds.{Kind, HasKind}
use Rattle.lk_arena.specs.Openings.{OpenRow, effects_type}
use Rattle.lk_arena.specs.Shapes.{is_loose_shape, IsBuilt, IsRowOf}
use Rattle.lk_arena.specs.Values.{Value, Plain, OfRow, IsMadeOf}
use Rattle.lk_arena.specs.declared.node.Field.{Field}
use Rattle.lk_arena.specs.declared.node.Head.{Head}
use Rattle.lk_arena.specs.declared.node.Head.TheVariants as head
use Rattle.lk_arena.specs.declared.node.Shape.{Shape}
use Rattle.lk_arena.specs.declared.node.Shape.TheVariants.{Free, Open, Empty, Made}
use Rattle.lk_arena.specs.declared.node.Shape.TheVariants as shape
use Rattle.lk_unify.specs.NamedNodes.{node_in}
use Rattle.lk_unify.specs.Loading.{kind_for, made_at, node_for, Adds, BringsKinds, CanMake, IsFound, IsKinded, IsLoader, IsMade, Makes}
use Rattle.lk_unify.specs.declared.loader.Loader.{Loader}
use Rattle.lk_unify.specs.declared.loader.MadeNode.{MadeNode}
use Rattle.lk_unify.specs.declared.loader.NodeKind.{NodeKind}

-- ---- a shape by which something is known determines the value

function_once : (row : OpenRow) (answer : Ty) (vs : List Value) (x y : Value) → IsMadeOf head.Fun (OfRow row ∷ Plain answer ∷ vs) x → IsMadeOf head.Fun (OfRow row ∷ Plain answer ∷ vs) y → x ≡ y
function_once row answer vs x y a b =
    let effects = same_set a.0 b.0 (sym a.2 ∙ b.2) in
    let params = plains_once a.1 b.1 (sym a.3 ∙ b.3) in
    a.4 ∙ (λ i. Plain (ty.Fun (params i) (effects_type (effects i)) answer)) ∙ sym b.4

made_value : (h : Head) (vs : List Value) (x y : Value) → IsMadeOf h vs x → IsMadeOf h vs y → x ≡ y
made_value head.Int [] x y a b = a ∙ sym b
made_value head.Bool [] x y a b = a ∙ sym b
made_value head.Text [] x y a b = a ∙ sym b
made_value head.List (Plain t ∷ []) x y a b = a ∙ sym b
made_value head.Fields (OfRow m ∷ []) x y a b = a ∙ sym b
made_value head.Tags (OfRow m ∷ []) x y a b = a ∙ sym b
made_value head.Fun (OfRow m ∷ Plain answer ∷ vs) x y a b = function_once m answer vs x y a b
made_value _ _ x y a b = absurd a

row_value : (fs : List Field) (w : ℕ → Value) (z x y : Value) → IsRowOf fs w z x → IsRowOf fs w z y → x ≡ y
row_value fs w z x y a b =
    let tails : a.tail ≡ b.tail = row_same a.tail b.tail (sym a.tail_is ∙ b.tail_is) in
    let first : IsRowOf fs w (OfRow a.tail) (OfRow a.row) = subst (λ z. IsRowOf fs w z (OfRow a.row)) a.tail_is (subst (IsRowOf fs w z) a.row_is a) in
    let second : IsRowOf fs w (OfRow a.tail) (OfRow b.row) = subst (λ z. IsRowOf fs w z (OfRow b.row)) a.tail_is (subst (IsRowOf fs w z) b.row_is b) in
    a.row_is ∙ ap OfRow (before_once w fs a.tail a.row b.row first second) ∙ sym b.row_is

built_value : (s : Shape) (w : ℕ → Value) (x y : Value) → is_loose_shape s ≡ false → IsBuilt s w x → IsBuilt s w y → x ≡ y
built_value Free w x y known a b = let f : true ≡ false = known in cc
built_value Open w x y known a b = let f : true ≡ false = known in cc
built_value Empty w x y known a b = a ∙ sym b
built_value (Made h ps) w x y known a b = made_value h (map w ps) x y a b
built_value (shape.Row fs t) w x y known a b = row_value fs w (w t) x y a b

-- ---- one that is there

pub makes_found : (l : Loader) (kind : NodeKind) (s : Shape) (n : ℕ) → IsLoader l → IsFound l kind s n → Makes l l (kind_for kind) s n
makes_found l kind s n whole found =
    let made : IsMade l.arena.shapes l.arena.classes (record { kind = kind; shape = s; node = n }) = whole.made found.0 (record { kind = kind; shape = s; node = n }) found.1 in
    record {
      whole = whole;
      longer = omega arith;
      below = made.below;
      names = λ x. refl;
      back = λ v h. h;
      covers = λ c h. h;
      built = made.built;
      forth = λ v x fits built. (v, (λ i h. refl), fits, built_value s v (v n) x made.known (made.built v (weak l v fits)) built);
      kinds = λ k kinded has. (k, (λ i h. refl), kinded, kinded.made found.0 (record { kind = kind; shape = s; node = n }) found.1);
    }

-- ---- a new one

module _ (b c d : Loader) (kind : NodeKind) (s : Shape) (k : ℕ) (can : CanMake b s) (add : Adds b c s k) (arena : d.arena ≡ c.arena) (names : d.names ≡ c.names)
    (made : (q : ℕ) (m : MadeNode) → made_at d q ≡ Some m → (record { kind = kind; shape = s; node = k } ≡ m) ⊎ (made_at c q ≡ Some m)) where
  abbrev new : MadeNode
  new = record { kind = kind; shape = s; node = k }

  -- the nodes are those with the new one
  abbrev e : Loader
  e = record { arena = c.arena; names = d.names; made = d.made; closed = d.closed }

  all_made : (q : ℕ) (m : MadeNode) → made_at d q ≡ Some m → IsMade c.arena.shapes c.arena.classes m
  all_made q m is =
      ⊎_elim
      (λ (t : new ≡ m).
      subst (IsMade c.arena.shapes c.arena.classes) t
      (record { below = added_below b c s k can.whole add can.parts; known = can.known; built = added_built b c s k can.whole add can.parts }))
      (λ (o : made_at c q ≡ Some m). added_made b c s k can.whole add can.parts q m o)
      (made q m is)

  same_names_all : (x : Variable) → node_for d x ≡ node_for b x
  same_names_all x = ap (λ n. node_in n x) names ∙ same_names b c s k can.whole add can.parts x

  whole : IsLoader e
  whole = record {
    arena = added_arena b c s k can.whole add can.parts can.distinct can.filled;
    named = λ x n is.
        let h : n < length b.arena.shapes = can.whole.named x n (sym (same_names_all x) ∙ is) in
        let l = one_longer b c s k can.whole add can.parts in
        omega arith;
    made = all_made;
  }

  kinds : (j : ℕ → Kind) → IsKinded b j → HasKind j (kind_for kind) s → BringsKinds b e j (λ j. j k ≡ kind_for kind)
  kinds j kinded has = (
    put j k (kind_for kind),
    old,
    record {
      nodes = kinded_nodes b c s k (kind_for kind) can.whole add can.parts j kinded.nodes has;
      named = λ x n is. let o = sym (same_names_all x) ∙ is in old n (can.whole.named x n o) ∙ kinded.named x n o;
      made = λ q m is. ⊎_elim
          (λ (t : new ≡ m). subst (λ (m : MadeNode). put j k (kind_for kind) m.node ≡ kind_for m.kind) t (new_kind b c s k (kind_for kind) can.whole add can.parts j kinded.nodes has))
          (λ (o : made_at c q ≡ Some m).
          let was : made_at b q ≡ Some m = sym (ap (λ made. get nat_cmp made q) add.made) ∙ o in
          old m.node (can.whole.made q m was).below ∙ kinded.made q m was)
          (made q m is);
    },
    new_kind b c s k (kind_for kind) can.whole add can.parts j kinded.nodes has,
  )
    where
      old : (i : ℕ) → i < length b.arena.shapes → put j k (kind_for kind) i ≡ j i
      old i h = old_kind b c s k (kind_for kind) can.whole add can.parts j kinded.nodes has i h

  makes : Makes b e (kind_for kind) s k
  makes = record {
    whole = whole;
    longer = (let l = one_longer b c s k can.whole add can.parts in omega arith);
    below = added_below b c s k can.whole add can.parts;
    names = same_names_all;
    back = added_back b c s k can.whole add can.parts;
    covers = added_covers b c s k can.whole add can.parts;
    built = added_built b c s k can.whole add can.parts;
    forth = added_node b c s k can.whole add can.parts;
    kinds = kinds;
  }

  makes_by_cases : Makes b d (kind_for kind) s k
  makes_by_cases = subst (λ a. Makes b (record { arena = a; names = d.names; made = d.made; closed = d.closed }) (kind_for kind) s k) (sym arena) makes

-- that isn't kept
pub makes_new : (b c : Loader) (kind : NodeKind) (s : Shape) (k : ℕ) → CanMake b s → Adds b c s k → Makes b c (kind_for kind) s k
makes_new b c kind s k can add = makes_by_cases b c c kind s k can add refl refl (λ q m is. inr is)

-- that is kept
pub makes_kept : (b c d : Loader) (kind : NodeKind) (s : Shape) (k key : ℕ) → CanMake b s → Adds b c s k → d.arena ≡ c.arena → d.names ≡ c.names →
    ((q : ℕ) → made_at d q ≡ cond (is_at (nat_cmp key) q) (Some (record { kind = kind; shape = s; node = k })) (made_at c q)) → Makes b d (kind_for kind) s k
makes_kept b c d kind s k key can add arena names made =
    makes_by_cases b c d kind s k can add arena names
    (λ q m e.
    let one : MadeNode = record { kind = kind; shape = s; node = k } in
    ⊎_elim
    (λ (t : is_at (nat_cmp key) q ≡ true). inl (same_Some one m (sym (ap (λ b. cond b (Some one) (made_at c q)) t) ∙ sym (made q) ∙ e)))
    (λ (f : is_at (nat_cmp key) q ≡ false). inr (sym (ap (λ b. cond b (Some one) (made_at c q)) f) ∙ sym (made q) ∙ e))
    (cases_Bool (is_at (nat_cmp key) q)))
