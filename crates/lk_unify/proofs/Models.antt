-- Values that fit, where each class has a kind and a rank: those of the classes of which nothing is known are chosen, and the
-- values of the others follow by their ranks. They fit where no row gets a label twice.
use Rattle.std.proofs.Common.{◌≡◌, ℕ, zero, suc, ◌<◌, true, List, length, None, refl, sym, ◌∙◌, ap, subst, arith}
use Rattle.std.specs.FinMap as fin
use Rattle.lk_types.proofs.Members.{each_weaker}
use Rattle.lk_types.specs.Each.{Each}
use Rattle.lk_types.specs.declared.ty.Ty.TheVariants as ty
use Rattle.lk_arena.proofs.EachLemmas.{Each-zip}
use Rattle.lk_unify.proofs.Shaping.{of_shape, of_shape-same, of_shape-loose, HasValue, IsFresh, IsChosen, node_well}
use Rattle.lk_arena.specs.Kinds.{Kind, AreKinded}
use Rattle.lk_arena.specs.Order.{IsRanked}
use Rattle.lk_classes.specs.Classes.{class_at}
use Rattle.lk_unify.specs.Reading.{row_in}
use Rattle.lk_arena.specs.Shapes.{shape_at, parts_of, IsBuilt, IsArena, Respects, WeakNodes, is_loose_shape}
use Rattle.lk_arena.specs.Values.{Value, Plain}
use Rattle.lk_arena.specs.declared.node.Field.{Field}
use Rattle.lk_arena.specs.declared.node.Shape.{Shape}
use Rattle.lk_arena.specs.declared.node.Shape.TheVariants.{Free, Open, Empty, Made}
use Rattle.lk_arena.specs.declared.node.Shape.TheVariants as shape

-- ---- values of all nodes, by rank

module _ (shapes : List Shape) (classes : List ℕ) (kind : ℕ → Kind) (rank : ℕ → ℕ) (arena : IsArena shapes classes) (kinded : AreKinded shapes classes kind)
    (ranked : IsRanked shapes classes rank) (w : ℕ → Value) where
  value : ℕ → ℕ → Value
  value zero i = Plain ty.Int
  value (suc n) i = of_shape (shape_at shapes (class_at classes i)) (w (class_at classes i)) (value n)

  -- the parts of the class of a node
  pub parts : (i : ℕ) → i < length shapes → Each (λ p. (rank (class_at classes p) < rank (class_at classes i)) × (p < length shapes)) (parts_of (shape_at shapes (class_at classes i)))
  parts i b =
      Each-zip (λ p. rank (class_at classes p) < rank (class_at classes i)) (λ p. p < length shapes) (λ p. (rank (class_at classes p) < rank (class_at classes i)) × (p < length shapes))
      (λ p a q. (a, q)) (parts_of (shape_at shapes (class_at classes i)))
      (ranked (class_at classes i) (arena.named.below i b) (arena.named.named i b)) (arena.nodes (class_at classes i) (arena.named.below i b))

  stable : (n m i : ℕ) → i < length shapes → rank (class_at classes i) < n → rank (class_at classes i) < m → value n i ≡ value m i
  unfolding value
  stable zero m i b h k = absurd (omega arith)
  stable (suc n) zero i b h k = absurd (omega arith)
  stable (suc n) (suc m) i b h k =
      of_shape-same (shape_at shapes (class_at classes i)) (w (class_at classes i)) (value n) (value m)
      (each_weaker (λ p. (rank (class_at classes p) < rank (class_at classes i)) × (p < length shapes)) (λ p. value n p ≡ value m p)
      (λ p a. let r : rank (class_at classes p) < rank (class_at classes i) = a.0 in stable n m p a.1 (omega arith) (omega arith))
      (parts_of (shape_at shapes (class_at classes i))) (parts i b))

  pub v : ℕ → Value
  v i = value (suc (rank (class_at classes i))) i

  pub v_is : (i : ℕ) → i < length shapes → v i ≡ of_shape (shape_at shapes (class_at classes i)) (w (class_at classes i)) v
  unfolding v value
  v_is i b =
      of_shape-same (shape_at shapes (class_at classes i)) (w (class_at classes i)) (value (rank (class_at classes i))) v
      (each_weaker (λ p. (rank (class_at classes p) < rank (class_at classes i)) × (p < length shapes)) (λ p. value (rank (class_at classes i)) p ≡ v p)
      (λ p a. stable (rank (class_at classes i)) (suc (rank (class_at classes p))) p a.1 a.0 (omega arith))
      (parts_of (shape_at shapes (class_at classes i))) (parts i b))

  pub named_is : (i : ℕ) → i < length shapes → class_at classes i ≡ i → v i ≡ of_shape (shape_at shapes i) (w i) v
  named_is i b n = v_is i b ∙ ap (λ c. of_shape (shape_at shapes c) (w c) v) n

  pub respects : Respects classes v
  respects i h =
      let b : i < length shapes = (let c : length classes ≡ length shapes = arena.named.count in omega arith) in
      v_is i b ∙ sym (named_is (class_at classes i) (arena.named.below i b) (arena.named.named i b))

  -- the values fit at the classes below this one
  abbrev pub BuildsUnder : ℕ → Type 0
  BuildsUnder c = (i : ℕ) → i < length shapes → class_at classes i ≡ i → rank i < rank c → IsBuilt (shape_at shapes i) v (v i)

  -- what is chosen has the kind of its class
  abbrev pub AreChosen : Type 0
  AreChosen = (c : ℕ) → c < length shapes → class_at classes c ≡ c → is_loose_shape (shape_at shapes c) ≡ true → HasValue (kind c) (w c)

  -- the row below has none of a row's own labels
  abbrev pub AreFresh : Type 0
  AreFresh = (c : ℕ) → c < length shapes → class_at classes c ≡ c → BuildsUnder c → (fs : List Field) (t : ℕ) → shape_at shapes c ≡ shape.Row fs t → Each (λ f. fin.get (row_in (v t)).fields f.label ≡ None) fs

  module _ (chosen : AreChosen) (apart : AreFresh) where
    pick_chosen : (c : ℕ) → c < length shapes → class_at classes c ≡ c → (s : Shape) → shape_at shapes c ≡ s → IsChosen kind v (kind c) s (w c)
    pick_chosen c b named Free s = chosen c b named (ap is_loose_shape s)
    pick_chosen c b named Open s = chosen c b named (ap is_loose_shape s)
    pick_chosen c b named Empty s = tt
    pick_chosen c b named (Made g ps) s = tt
    pick_chosen c b named (shape.Row fs t) s = tt

    fresh : (c : ℕ) → c < length shapes → class_at classes c ≡ c → (s : Shape) → shape_at shapes c ≡ s → BuildsUnder c → IsFresh kind v s
    fresh c b named Free e names = tt
    fresh c b named Open e names = tt
    fresh c b named Empty e names = tt
    fresh c b named (Made g ps) e names = tt
    fresh c b named (shape.Row fs t) e names = apart c b named names fs t e

    good : (n c : ℕ) → c < length shapes → class_at classes c ≡ c → rank c < n → HasValue (kind c) (v c) × IsBuilt (shape_at shapes c) v (v c)
    good zero c b named h = absurd (omega arith)
    good (suc n) c b named h =
        let names : (i : ℕ) → i < length shapes → class_at classes i ≡ i → rank i < rank c → IsBuilt (shape_at shapes i) v (v i) = λ i l e r. (good n i l e (omega arith)).1 in
        let below : Each (λ p. HasValue (kind p) (v p)) (parts_of (shape_at shapes c)) =
        Each-zip (λ p. rank (class_at classes p) < rank c) (λ p. p < length shapes) (λ p. HasValue (kind p) (v p))
        (λ p r l.
        let g : HasValue (kind (class_at classes p)) (v (class_at classes p)) = (good n (class_at classes p) (arena.named.below p l) (arena.named.named p l) (omega arith)).0 in
        let s : v p ≡ v (class_at classes p) = respects p (let e : length classes ≡ length shapes = arena.named.count in omega arith) in
        subst (λ k. HasValue k (v p)) (kinded p l).0 (subst (HasValue (kind (class_at classes p))) (sym s) g))
        (parts_of (shape_at shapes c)) (ranked c b named) (arena.nodes c b) in
        let has = (kinded c b).1 in
        let x = node_well kind v (kind c) (shape_at shapes c) (w c) has below (fresh c b named (shape_at shapes c) refl names) (pick_chosen c b named (shape_at shapes c) refl) in
        let e = named_is c b named in
        (subst (HasValue (kind c)) (sym e) x.0, subst (IsBuilt (shape_at shapes c) v) (sym e) x.1)

    pub model : WeakNodes shapes classes v
    model = record {
      builds = λ i b n. (good (suc (rank i)) i b n (omega arith)).1;
      respects = respects;
    }

    -- each node has a value of its kind
    pub kinds_good : (i : ℕ) → i < length shapes → class_at classes i ≡ i → HasValue (kind i) (v i)
    kinds_good i b n = (good (suc (rank i)) i b n (omega arith)).0

  pub takes : (i : ℕ) → i < length shapes → class_at classes i ≡ i → is_loose_shape (shape_at shapes i) ≡ true → v i ≡ w i
  takes i b named loose = named_is i b named ∙ of_shape-loose (shape_at shapes i) (w i) v loose
