-- Counts that follow from each other by the shapes: that there are some, that they cover the nodes where each end that was open once
-- counts one, and that numbers that cover the nodes are no less than the counts where closed ends count nothing.
use Rattle.std.proofs.Common.{◌≡◌, ℕ, zero, suc, ◌+◌, ◌<◌, ◌≤◌, true, false, inl, inr, ⊎_elim, List, [], ◌∷◌, length, map, refl, sym, ◌∙◌, ap, subst, arith}
use Rattle.lk_classes.specs.Classes.{class_at}
use Rattle.lk_types.proofs.Members.{each_weaker, each_from_map}
use Rattle.lk_types.specs.Each.{Each}
use Rattle.lk_arena.proofs.EachLemmas.{Each-zip}
use Rattle.lk_arena.specs.Counting.{sum_of, counted, AreCounted, CountOnceOpen}
use Rattle.lk_arena.specs.Covering.{fields_count, Covers, IsCovered}
use Rattle.lk_arena.specs.Kinds.{Kind, OfTypes, OfFields, OfEffects, OfUnit, OfNothing, IsEffectName, HasKind, AreKinded}
use Rattle.lk_arena.specs.Order.{IsRanked}
use Rattle.lk_arena.specs.Shapes.{shape_at, parts_of, is_loose_shape, HasFields, IsArena}
use Rattle.lk_arena.specs.declared.node.Field.{Field}
use Rattle.lk_arena.specs.declared.node.Shape.{Shape}
use Rattle.lk_arena.specs.declared.node.Shape.TheVariants.{Free, Open, Empty, Made}
use Rattle.lk_arena.specs.declared.node.Shape.TheVariants as shape

-- ---- counts of parts

sums_below : {A : Type 0} (f g : A → ℕ) (xs : List A) → Each (λ x. f x ≤ g x) xs → sum_of (map f xs) ≤ sum_of (map g xs)
sums_below f g [] e = omega arith
sums_below f g (x ∷ xs) e = let here = e.0 in let below = sums_below f g xs e.1 in omega arith

-- those that are no less make a count that is no less
shape_below : (closed : ℕ) (k : Kind) (s : Shape) (f g : ℕ → ℕ) → Each (λ p. f p ≤ g p) (parts_of s) → counted closed k s f ≤ counted closed k s g
shape_below closed OfTypes Free f g e = omega arith
shape_below closed OfTypes Open f g e = omega arith
shape_below closed OfTypes Empty f g e = omega arith
shape_below closed OfTypes (Made h ps) f g e = let a = sums_below f g ps e in omega arith
shape_below closed OfTypes (shape.Row fs t) f g e = omega arith
shape_below closed OfFields Free f g e = omega arith
shape_below closed OfFields Open f g e = omega arith
shape_below closed OfFields Empty f g e = omega arith
shape_below closed OfFields (Made h ps) f g e = omega arith
shape_below closed OfFields (shape.Row fs t) f g e =
    let a = e.0 in
    let b = sums_below (λ (x : Field). 1 + f x.node) (λ x. 1 + g x.node) fs
    (each_weaker (λ (x : Field). f x.node ≤ g x.node) (λ x. 1 + f x.node ≤ 1 + g x.node) (λ x h. omega arith) fs (each_from_map (λ p. f p ≤ g p) (λ (x : Field). x.node) fs e.1)) in
    omega arith
shape_below closed OfEffects Free f g e = omega arith
shape_below closed OfEffects Open f g e = omega arith
shape_below closed OfEffects Empty f g e = omega arith
shape_below closed OfEffects (Made h ps) f g e = omega arith
shape_below closed OfEffects (shape.Row fs t) f g e = let a = e.0 in omega arith
shape_below closed OfUnit s f g e = omega arith
shape_below closed OfNothing s f g e = omega arith

shape_same : (closed : ℕ) (k : Kind) (s : Shape) (f g : ℕ → ℕ) → Each (λ p. f p ≡ g p) (parts_of s) → counted closed k s f ≡ counted closed k s g
shape_same closed k s f g e =
    let a = shape_below closed k s f g (each_weaker (λ p. f p ≡ g p) (λ p. f p ≤ g p) (λ p h. omega arith) (parts_of s) e) in
    let b = shape_below closed k s g f (each_weaker (λ p. f p ≡ g p) (λ p. g p ≤ f p) (λ p h. omega arith) (parts_of s) e) in
    omega arith

module _ (shapes : List Shape) (classes : List ℕ) (arena : IsArena shapes classes) (kind : ℕ → Kind) where
  -- what holds of the parts of a class, which stand below it
  module _ (rank : ℕ → ℕ) (ranked : IsRanked shapes classes rank) where
    each_part : (P : ℕ → Type 0) (i : ℕ) → i < length shapes
        → ((p : ℕ) → rank (class_at classes p) < rank (class_at classes i) → p < length shapes → P p) → Each P (parts_of (shape_at shapes (class_at classes i)))
    each_part P i below holds =
        let c = class_at classes i in
        Each-zip (λ p. rank (class_at classes p) < rank c) (λ p. p < length shapes) P holds (parts_of (shape_at shapes c))
        (ranked c (arena.named.below i below) (arena.named.named i below)) (arena.nodes c (arena.named.below i below))

    -- ---- there are some

    module _ (ends : ℕ → ℕ) where
      -- by recursion down to a number of levels
      count_to : ℕ → ℕ → ℕ
      count_to zero i = 0
      count_to (suc n) i = counted (ends (class_at classes i)) (kind i) (shape_at shapes (class_at classes i)) (count_to n)

      enough : (m n i : ℕ) → i < length shapes → rank (class_at classes i) < m → rank (class_at classes i) < n → count_to m i ≡ count_to n i
      unfolding count_to
      enough zero n i below l h = absurd (omega arith)
      enough (suc m) zero i below l h = absurd (omega arith)
      enough (suc m) (suc n) i below l h =
          shape_same (ends (class_at classes i)) (kind i) (shape_at shapes (class_at classes i)) (count_to m) (count_to n)
          (each_part (λ p. count_to m p ≡ count_to n p) i below (λ p less under. enough m n p under (omega arith) (omega arith)))

      pub count_by : ℕ → ℕ
      count_by i = count_to (suc (rank (class_at classes i))) i

      pub counts_exist : AreCounted ends shapes classes kind count_by
      unfolding count_by count_to
      counts_exist i below =
          shape_same (ends (class_at classes i)) (kind i) (shape_at shapes (class_at classes i)) (count_to (rank (class_at classes i))) count_by
          (each_part (λ p. count_to (rank (class_at classes i)) p ≡ count_by p) i below (λ p less under. enough (rank (class_at classes i)) (suc (rank (class_at classes p))) p under less (omega arith)))

  module _ (kinded : AreKinded shapes classes kind) where
    -- the shape of a node's class is one of the node's kind
    class_kind : (i : ℕ) → i < length shapes → HasKind kind (kind i) (shape_at shapes (class_at classes i))
    class_kind i below =
        let c = class_at classes i in
        subst (λ k. HasKind kind k (shape_at shapes c)) (kinded i below).0 (kinded c (arena.named.below i below)).1

    -- ---- they cover the nodes

    type_some : (closed : ℕ) (s : Shape) (c : ℕ → ℕ) → HasKind kind OfTypes s → 1 ≤ counted closed OfTypes s c
    type_some closed Free c h = omega arith
    type_some closed Open c h = absurd h
    type_some closed Empty c h = absurd h
    type_some closed (Made g ps) c h = omega arith
    type_some closed (shape.Row fs t) c h = absurd h

    row_some : (closed : ℕ) (s : Shape) (c : ℕ → ℕ) → HasKind kind OfFields s → HasFields s → 1 ≤ closed → 1 ≤ counted closed OfFields s c
    row_some closed Free c h filled end = absurd h
    row_some closed Open c h filled end = omega arith
    row_some closed Empty c h filled end = end
    row_some closed (Made g ps) c h filled end = absurd h
    row_some closed (shape.Row [] t) c h filled end = absurd filled
    row_some closed (shape.Row (f ∷ fs) t) c h filled end = omega arith

    effects_some : (closed : ℕ) (s : Shape) (c : ℕ → ℕ) → HasKind kind OfEffects s → HasFields s → 1 ≤ closed → 1 ≤ counted closed OfEffects s c
    effects_some closed Free c h filled end = absurd h
    effects_some closed Open c h filled end = omega arith
    effects_some closed Empty c h filled end = end
    effects_some closed (Made g ps) c h filled end = absurd h
    effects_some closed (shape.Row [] t) c h filled end = absurd filled
    effects_some closed (shape.Row (f ∷ fs) t) c h filled end = omega arith

    module _ (ends c : ℕ → ℕ) (count : AreCounted ends shapes classes kind c) where
      pub types_some : (i : ℕ) → i < length shapes → kind i ≡ OfTypes → 1 ≤ c i
      types_some i below is =
          let s = shape_at shapes (class_at classes i) in
          let some = type_some (ends (class_at classes i)) s c (subst (λ k. HasKind kind k s) is (class_kind i below)) in
          let e = count i below ∙ ap (λ k. counted (ends (class_at classes i)) k s c) is in
          omega arith

      units_none : (i : ℕ) → i < length shapes → kind i ≡ OfUnit → c i ≡ 0
      units_none i below is = count i below ∙ ap (λ k. counted (ends (class_at classes i)) k (shape_at shapes (class_at classes i)) c) is

      same_count : (i : ℕ) → i < length shapes → c i ≡ c (class_at classes i)
      same_count i below =
          let p = class_at classes i in
          count i below
          ∙ ap (λ k. counted (ends p) k (shape_at shapes p) c) (sym (kinded i below).0)
          ∙ ap (λ s. counted (ends s) (kind p) (shape_at shapes s) c) (sym (arena.named.named i below))
          ∙ sym (count p (arena.named.below i below))

      effects_count : (fs : List Field) → Each (λ f. IsEffectName f.label × (kind f.node ≡ OfUnit)) fs → Each (λ f. f.node < length shapes) fs → length fs ≡ fields_count c fs
      effects_count [] kinds below = refl
      effects_count (f ∷ fs) kinds below =
          let ih = effects_count fs kinds.1 below.1 in
          let none = units_none f.node below.0 kinds.0.1 in
          omega arith

      covered : (closed : ℕ) (k : Kind) (s : Shape) (x : ℕ) → HasKind kind k s → Each (λ p. p < length shapes) (parts_of s) → x ≡ counted closed k s c → IsCovered s c x
      covered closed OfTypes Free x h parts e = omega arith
      covered closed OfTypes Open x h parts e = absurd h
      covered closed OfTypes Empty x h parts e = tt
      covered closed OfTypes (Made g ps) x h parts e = inr e
      covered closed OfTypes (shape.Row fs t) x h parts e = absurd h
      covered closed OfFields Free x h parts e = absurd h
      covered closed OfFields Open x h parts e = omega arith
      covered closed OfFields Empty x h parts e = tt
      covered closed OfFields (Made g ps) x h parts e = absurd h
      covered closed OfFields (shape.Row fs t) x h parts e = e
      covered closed OfEffects Free x h parts e = absurd h
      covered closed OfEffects Open x h parts e = omega arith
      covered closed OfEffects Empty x h parts e = tt
      covered closed OfEffects (Made g ps) x h parts e = absurd h
      covered closed OfEffects (shape.Row fs t) x h parts e =
          let all = effects_count fs h.0 (each_from_map (λ p. p < length shapes) (λ f. f.node) fs parts.1) in
          omega arith
      covered closed OfUnit Free x h parts e = absurd h
      covered closed OfUnit Open x h parts e = absurd h
      covered closed OfUnit Empty x h parts e = tt
      covered closed OfUnit (Made g ps) x h parts e = inl e
      covered closed OfUnit (shape.Row fs t) x h parts e = absurd h
      covered closed OfNothing Free x h parts e = absurd h
      covered closed OfNothing Open x h parts e = absurd h
      covered closed OfNothing Empty x h parts e = tt
      covered closed OfNothing (Made g ps) x h parts e = absurd h
      covered closed OfNothing (shape.Row fs t) x h parts e = absurd h

      module _ (once : CountOnceOpen shapes classes ends) where
        loose_some : (i : ℕ) (k : Kind) (own : Shape) → i < length shapes → kind i ≡ k → shape_at shapes i ≡ own → is_loose_shape own ≡ true → HasKind kind k own → 1 ≤ c i
        loose_some i OfTypes own below is own_is loose h = types_some i below is
        loose_some i OfFields Open below is own_is loose h =
            let s = shape_at shapes (class_at classes i) in
            let some = row_some (ends (class_at classes i)) s c (subst (λ k. HasKind kind k s) is (class_kind i below)) (arena.filled (class_at classes i) (arena.named.below i below)) (once i below own_is) in
            let e = count i below ∙ ap (λ k. counted (ends (class_at classes i)) k s c) is in
            omega arith
        loose_some i OfEffects Open below is own_is loose h =
            let s = shape_at shapes (class_at classes i) in
            let some = effects_some (ends (class_at classes i)) s c (subst (λ k. HasKind kind k s) is (class_kind i below)) (arena.filled (class_at classes i) (arena.named.below i below)) (once i below own_is) in
            let e = count i below ∙ ap (λ k. counted (ends (class_at classes i)) k s c) is in
            omega arith
        loose_some i OfFields Free below is own_is loose h = absurd h
        loose_some i OfFields Empty below is own_is loose h = let f : false ≡ true = loose in cc
        loose_some i OfFields (Made g ps) below is own_is loose h = absurd h
        loose_some i OfFields (shape.Row fs t) below is own_is loose h = let f : false ≡ true = loose in cc
        loose_some i OfEffects Free below is own_is loose h = absurd h
        loose_some i OfEffects Empty below is own_is loose h = let f : false ≡ true = loose in cc
        loose_some i OfEffects (Made g ps) below is own_is loose h = absurd h
        loose_some i OfEffects (shape.Row fs t) below is own_is loose h = let f : false ≡ true = loose in cc
        loose_some i OfUnit Free below is own_is loose h = absurd h
        loose_some i OfUnit Open below is own_is loose h = absurd h
        loose_some i OfUnit Empty below is own_is loose h = let f : false ≡ true = loose in cc
        loose_some i OfUnit (Made g ps) below is own_is loose h = let f : false ≡ true = loose in cc
        loose_some i OfUnit (shape.Row fs t) below is own_is loose h = let f : false ≡ true = loose in cc
        loose_some i OfNothing Free below is own_is loose h = absurd h
        loose_some i OfNothing Open below is own_is loose h = absurd h
        loose_some i OfNothing Empty below is own_is loose h = let f : false ≡ true = loose in cc
        loose_some i OfNothing (Made g ps) below is own_is loose h = absurd h
        loose_some i OfNothing (shape.Row fs t) below is own_is loose h = let f : false ≡ true = loose in cc

        pub counts_cover : Covers shapes classes c
        counts_cover = record {
          builds = λ i below named.
              covered (ends i) (kind i) (shape_at shapes i) (c i) (kinded i below).1 (arena.nodes i below)
              (count i below ∙ ap (λ p. counted (ends p) (kind i) (shape_at shapes p) c) named);
          same = λ i below. same_count i (subst (λ n. i < n) arena.named.count below);
          loose = λ i below loose. loose_some i (kind i) (shape_at shapes i) below refl refl loose (kinded i below).1;
        }

    -- ---- what covers them is no less

    module _ (rank : ℕ → ℕ) (ranked : IsRanked shapes classes rank) (f c : ℕ → ℕ) (count : AreCounted (λ p. 0) shapes classes kind f) (covers : Covers shapes classes c)
        (some : (i : ℕ) → i < length shapes → kind i ≡ OfTypes → 1 ≤ c i) where
      fields_some : (fs : List Field) → length fs ≤ fields_count c fs
      fields_some [] = omega arith
      fields_some (f ∷ fs) = let ih = fields_some fs in omega arith

      at_shape : (k : Kind) (s : Shape) (x : ℕ) → HasKind kind k s → (k ≡ OfTypes → 1 ≤ x) → IsCovered s c x → counted 0 k s c ≤ x
      at_shape OfTypes Free x h one cover = cover
      at_shape OfTypes Open x h one cover = omega arith
      at_shape OfTypes Empty x h one cover = omega arith
      at_shape OfTypes (Made g ps) x h one cover = let least = one refl in ⊎_elim (λ none. absurd (omega arith)) (λ is. omega arith) cover
      at_shape OfTypes (shape.Row fs t) x h one cover = omega arith
      at_shape OfFields Free x h one cover = omega arith
      at_shape OfFields Open x h one cover = cover
      at_shape OfFields Empty x h one cover = omega arith
      at_shape OfFields (Made g ps) x h one cover = omega arith
      at_shape OfFields (shape.Row fs t) x h one cover = omega arith
      at_shape OfEffects Free x h one cover = omega arith
      at_shape OfEffects Open x h one cover = cover
      at_shape OfEffects Empty x h one cover = omega arith
      at_shape OfEffects (Made g ps) x h one cover = omega arith
      at_shape OfEffects (shape.Row fs t) x h one cover = let all = fields_some fs in omega arith
      at_shape OfUnit s x h one cover = omega arith
      at_shape OfNothing s x h one cover = omega arith

      least : (n i : ℕ) → i < length shapes → rank (class_at classes i) < n → f i ≤ c i
      least zero i below h = absurd (omega arith)
      least (suc n) i below h =
          let p = class_at classes i in
          let s = shape_at shapes p in
          let same : c i ≡ c p = covers.same i (subst (λ n. i < n) (sym arena.named.count) below) in
          let a = count i below in
          let e = shape_below 0 (kind i) s f c (each_part rank ranked (λ q. f q ≤ c q) i below (λ q less under. least n q under (omega arith))) in
          let g =
          at_shape (kind i) s (c p) (class_kind i below) (λ is. let one = some i below is in omega arith) (covers.builds p (arena.named.below i below) (arena.named.named i below)) in
          omega arith

      pub counts_least : (i : ℕ) → i < length shapes → f i ≤ c i
      counts_least i below = least (suc (rank (class_at classes i))) i below (omega arith)
