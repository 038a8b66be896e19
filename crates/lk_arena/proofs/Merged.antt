-- Two classes become one: why what the shape of the one that is given up said holds still.
use Rattle.lk_types.proofs.Members.{each_both}
use Rattle.std.proofs.Common.{◌≡◌, ℕ, ◌+◌, ◌<◌, true, List, ◌++◌, length, refl, sym, ◌∙◌, ap, subst, arith}
use Rattle.lk_arena.proofs.Covering.{covers_less, covers_whole, covers_with, loose_covered, made_covered, row_covered}
use Rattle.lk_arena.proofs.Flats.{IsFlatOf-later, Fits-with, HasFit-at, WeakFits-with, WeakFits-less}
use Rattle.lk_arena.proofs.Kinded.{made_kinds}
use Rattle.lk_arena.specs.Covering.{fields_count, CountLoose, IsCovered, IsFlatCounted}
use Rattle.lk_arena.specs.Kinds.{AreFieldsOf, HasKind, IsFlatKinded}
use Rattle.lk_arena.proofs.Loose.{loose_built}
use Rattle.lk_arena.proofs.Mades.{made_again, made_parts, parts_below}
use Rattle.lk_arena.proofs.Pairs.{paired-map, AreNodePairs-paired}
use Rattle.lk_arena.proofs.Relabel.{weak_whole}
use Rattle.lk_arena.proofs.Weak.{but_flat, but_tail, but_whole, but_front}
use Rattle.lk_arena.specs.Shapes.{shape_at, is_row_shape, is_loose_shape, IsArena, IsBuilt, IsFlatBut, IsFlatOf, IsEnd, NeverBoth, NeverSame, AreNodePairs, WeakNodes}
use Rattle.lk_arena.specs.Steps.{AreApart, JoinsRows, Merges, Unites, paired}
use Rattle.lk_arena.specs.Values.{Value}
use Rattle.lk_arena.specs.declared.node.Field.{Field}
use Rattle.lk_arena.specs.declared.node.Head.{Head}
use Rattle.lk_arena.specs.declared.node.Pair.{Pair}
use Rattle.lk_arena.specs.declared.node.Shape.{Shape}
use Rattle.lk_arena.specs.declared.node.Shape.TheVariants.{Made}

module _ (from to : ℕ) (shapes : List Shape) (classes : List ℕ) (apart : AreApart (length shapes) classes from to) where
  pub never_same : (s t : Shape) → shape_at shapes from ≡ s → shape_at shapes to ≡ t → NeverBoth s t → NeverSame shapes classes from to
  never_same s t is is' never v fits e =
      never v (v from) (subst (λ s. IsBuilt s v (v from)) is (fits.builds from apart.from_below))
      (subst (IsBuilt t v) (sym e) (subst (λ s. IsBuilt s v (v to)) is' (fits.builds to apart.to_below)))

  module _ (arena : IsArena shapes classes) (queue : List Pair) (pairs : AreNodePairs (length shapes) queue) (shapes' : List Shape) (classes' : List ℕ)
      (unites : Unites from to shapes classes shapes' classes') where
    whole : (v : ℕ → Value) → WeakNodes shapes' classes' v → IsBuilt (shape_at shapes from) v (v from) → WeakNodes shapes classes v × (v from ≡ v to)
    whole v fits built = let p = unites.part v fits in (weak_whole shapes classes from v p.0 p.1 built, p.2)

    count : length shapes' ≡ length shapes
    count = ap length unites.kept

    -- no pair waits
    pub merges_alone : ((v : ℕ → Value) → v from ≡ v to → IsBuilt (shape_at shapes to) v (v from) → IsBuilt (shape_at shapes from) v (v from))
        → ((c : ℕ → ℕ) → CountLoose shapes c → IsCovered (shape_at shapes to) c (c from) → IsCovered (shape_at shapes from) c (c from))
        → Merges from to shapes classes queue shapes' classes' queue
    merges_alone again counted = record {
      arena = unites.arena;
      longer = let c = count in omega arith;
      pairs = subst (λ n. AreNodePairs n queue) (sym count) pairs;
      back = λ v fits.
          let p = unites.part v fits.nodes in
          let w = whole v fits.nodes (again v p.2 (subst (IsBuilt (shape_at shapes to) v) (sym p.2) p.3)) in
          (WeakFits-with shapes classes queue v w.0 fits.equates, w.1);
      covers = λ c covers.
          let p = unites.covers c covers.nodes in
          let at_from : IsCovered (shape_at shapes to) c (c from) = subst (IsCovered (shape_at shapes to) c) (sym p.3) p.4 in
          (covers_with shapes classes queue c (covers_whole shapes classes from c p.0 p.1 p.2 (counted c p.2 at_from)) covers.equal, p.3);
      forth = λ v fits e. (v, (λ i h. refl), Fits-with shapes' classes' queue v (unites.forth v fits.nodes e) fits.equates);
      kinds = λ kind kinded equal e. (kind, (λ i h. refl), unites.kinds kind kinded e, equal);
      lighter = unites.lighter;
    }

    pub merges_loose : is_loose_shape (shape_at shapes from) ≡ true → is_row_shape (shape_at shapes from) ≡ is_row_shape (shape_at shapes to)
        → Merges from to shapes classes queue shapes' classes' queue
    merges_loose loose kinds =
        merges_alone (λ v e built. loose_built (shape_at shapes from) (shape_at shapes to) v (v from) loose kinds built)
        (λ c some covered. loose_covered c (shape_at shapes from) (c from) loose (some from apart.from_below loose))

    pub merges_equal : (s : Shape) → shape_at shapes from ≡ s → shape_at shapes to ≡ s → Merges from to shapes classes queue shapes' classes' queue
    merges_equal s is is' =
        merges_alone (λ v e built. subst (λ s. IsBuilt s v (v from)) (is' ∙ sym is) built) (λ c some covered. subst (λ s. IsCovered s c (c from)) (is' ∙ sym is) covered)

    -- the parts wait as pairs
    module _ (h : Head) (ps qs : List ℕ) (is : shape_at shapes from ≡ Made h ps) (is' : shape_at shapes to ≡ Made h qs) (lengths : length ps ≡ length qs) (queue' : List Pair)
        (pushed : queue' ≡ queue ++ paired ps qs) where
      pub merges_made : Merges from to shapes classes queue shapes' classes' queue'
      merges_made =
          subst (Merges from to shapes classes queue shapes' classes') (sym pushed)
          (record {
            arena = unites.arena;
            longer = let c = count in omega arith;
            pairs = subst (λ n. AreNodePairs n (queue ++ paired ps qs)) (sym count)
                (each_both (λ p. (p.left < length shapes) × (p.right < length shapes)) queue (paired ps qs) pairs
                (AreNodePairs-paired (length shapes) ps qs (parts_below shapes classes from h ps arena apart.from_below is) (parts_below shapes classes to h qs arena apart.to_below is')));
            back = λ v fits.
                let less = WeakFits-less shapes' classes' queue (paired ps qs) v fits in
                let p = unites.part v less.0.nodes in
                let w = whole v less.0.nodes (made_again shapes from to h h ps qs is is' refl lengths v less.1 p.2 p.3) in
                (WeakFits-with shapes classes queue v w.0 less.0.equates, w.1);
            covers = λ c covers.
                let less = covers_less shapes' classes' queue (paired ps qs) c covers in
                let p = unites.covers c less.0.nodes in
                let at_from : IsCovered (shape_at shapes to) c (c from) = subst (IsCovered (shape_at shapes to) c) (sym p.3) p.4 in
                let built = made_covered c (shape_at shapes from) (shape_at shapes to) h h ps qs (c from) is is' lengths less.1 at_from in
                (covers_with shapes classes queue c (covers_whole shapes classes from c p.0 p.1 p.2 built) less.0.equal, p.3);
            forth = λ v fits e.
                let parts = made_parts shapes classes from to h h ps qs is is' apart.from_below apart.to_below v fits.nodes e in (
                  v,
                  (λ i h. refl),
                  Fits-with shapes' classes' (queue ++ paired ps qs) v (unites.forth v fits.nodes e)
                      (each_both (λ p. v p.left ≡ v p.right) queue (paired ps qs) fits.equates (paired-map v ps qs parts.1)),
                );
            kinds = λ kind kinded equal e.
                let other : HasKind kind (kind from) (Made h qs) =
                subst (λ k. HasKind kind k (Made h qs)) (sym e) (subst (HasKind kind (kind to)) is' (kinded to apart.to_below).1) in (
                  kind,
                  (λ i h. refl),
                  unites.kinds kind kinded e,
                  each_both (λ p. kind p.left ≡ kind p.right) queue (paired ps qs) equal
                      (made_kinds kind (kind from) h ps qs (subst (HasKind kind (kind from)) is (kinded from apart.from_below).1) other),
                );
            lighter = unites.lighter;
          })

    -- the rows are joined
    module _ (fs gs : List Field) (s t : ℕ) (left : IsFlatBut from shapes classes from fs s) (right : IsFlatBut from shapes classes to gs t) (left_end : IsEnd from shapes s)
        (right_end : IsEnd from shapes t) where
      later : (row : ℕ) (fs : List Field) (tail : ℕ) → IsFlatBut from shapes classes row fs tail → IsFlatOf shapes' classes' row fs tail
      later row fs tail flat = IsFlatOf-later shapes shapes' classes classes' row fs tail unites.kept unites.before (but_flat from shapes classes arena row fs tail flat)

      pub left_later : IsFlatOf shapes' classes' from fs s
      left_later = later from fs s left

      pub right_later : IsFlatOf shapes' classes' to gs t
      right_later = later to gs t right

      pub never_joined : NeverSame shapes' classes' from to → NeverSame shapes classes from to
      never_joined never v fits e = never v (unites.forth v fits e) e

      module _ (left_kinds : IsFlatKinded shapes classes from fs s) (right_kinds : IsFlatKinded shapes classes to gs t) (left_counts : IsFlatCounted from shapes classes from fs s)
          (right_counts : IsFlatCounted from shapes classes to gs t) (shapes'' : List Shape) (classes'' : List ℕ) (queue'' : List Pair)
          (joins : JoinsRows from to fs gs s t shapes' classes' queue shapes'' classes'' queue'') where
        pub merges_rows : Merges from to shapes classes queue shapes'' classes'' queue''
        merges_rows = record {
          arena = joins.arena;
          longer = let c = count in let l = joins.longer in omega arith;
          pairs = joins.pairs;
          back = λ v fits.
              let before = joins.back v fits in
              let p = unites.part v before.nodes in
              let m = but_tail from shapes classes to gs t right right_end.0 right_end.1 v p.0 p.1 in
              let row = but_whole from shapes classes to gs t right right_end.0 right_end.1 v p.0 p.1 (v to) p.3 in
              let other = joins.rebuilt v m.0 (v to) fits m.1 row in
              let built = but_front from shapes classes from fs s left left_end.0 left_end.1 v p.0 p.1 (v to) other in
              let w = whole v before.nodes (subst (IsBuilt (shape_at shapes from) v) (sym p.2) built) in
              (WeakFits-with shapes classes queue v w.0 before.equates, w.1);
          covers = λ c covers.
              let before = joins.covers c covers in
              let p = unites.covers c before.0.nodes in
              let same = before.1 in
              let whole = row_covered c (shape_at shapes to) right.own right.first (c to) right.shape_is p.4 in
              let l = left_counts c p.0 p.1 left.own left.first left.shape_is in
              let r = right_counts c p.0 p.1 right.own right.first right.shape_is in
              let e = p.3 in
              let built : IsCovered (shape_at shapes from) c (c from) =
              subst (λ s. IsCovered s c (c from)) (sym left.shape_is) (let it : c from ≡ fields_count c left.own + c left.first = omega arith in it) in
              (covers_with shapes classes queue c (covers_whole shapes classes from c p.0 p.1 p.2 built) before.0.equal, p.3);
          forth = λ v fits e.
              HasFit-at shapes shapes' shapes'' classes'' queue'' v unites.kept
              (joins.forth v (Fits-with shapes' classes' queue v (unites.forth v fits.nodes e) fits.equates) e);
          kinds = λ kind kinded equal e.
              let l = left_kinds kind kinded in
              let r = right_kinds kind kinded in
              let h = joins.kinds kind (kind from) (unites.kinds kind kinded e) equal l.1 (r.1 ∙ sym e) l.0 (subst (λ k. AreFieldsOf kind k gs) (sym e) r.0) in
              (h.0, (λ i b. h.1 i (omega (arith, count))), h.2, h.3);
          lighter = let a = joins.lighter in let b = unites.lighter in omega arith;
        }

-- which of the two is given up says nothing
pub merges_turned : (from to : ℕ) (shapes : List Shape) (classes : List ℕ) (queue : List Pair) (shapes' : List Shape) (classes' : List ℕ) (queue' : List Pair)
    → Merges to from shapes classes queue shapes' classes' queue' → Merges from to shapes classes queue shapes' classes' queue'
merges_turned from to shapes classes queue shapes' classes' queue' merges = record {
  arena = merges.arena;
  longer = merges.longer;
  pairs = merges.pairs;
  back = λ v fits. let b = merges.back v fits in (b.0, sym b.1);
  covers = λ c covers. let b = merges.covers c covers in (b.0, sym b.1);
  forth = λ v fits e. merges.forth v fits (sym e);
  kinds = λ kind kinded equal e. merges.kinds kind kinded equal (sym e);
  lighter = merges.lighter;
}
