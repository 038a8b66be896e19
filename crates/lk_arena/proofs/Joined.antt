-- Two rows whose tails are joined and whose common fields wait as pairs are one row.
use Rattle.std.proofs.Common.{◌≡◌, ◌≢◌, ℕ, ◌<◌, true, false, List, ◌++◌, length, refl, sym, subst}
use Rattle.lk_types.proofs.Members.{each_both}
use Rattle.lk_types.specs.Each.{Each}
use Rattle.lk_arena.proofs.Covering.{covers_less}
use Rattle.lk_arena.proofs.CoveringRows.{joined_count}
use Rattle.lk_arena.proofs.Flats.{AreNodePairs-common, flats_common, flats_rest, flats_left, flats_right, HasFit-more, WeakFits-less}
use Rattle.lk_arena.proofs.Kinded.{common_kinds, fields_missing}
use Rattle.lk_arena.proofs.Joins.{EqualKinds-same, AreNodePairs-more}
use Rattle.lk_arena.proofs.RowAlgebra.{Each-missing, IsDistinct-missing, rows_rebuilt, AreFound-from_distinct}
use Rattle.lk_arena.specs.Shapes.{shape_at, is_row_shape, is_fields, IsFlatOf, common, missing}
use Rattle.lk_arena.specs.Steps.{AreTails, IsTail, JoinsTails, JoinsRows}
use Rattle.lk_arena.specs.declared.node.Field.{Field}
use Rattle.lk_arena.specs.declared.node.Pair.{Pair}
use Rattle.lk_arena.specs.declared.node.Shape.{Shape}
use Rattle.lk_arena.specs.declared.node.Shape.TheVariants.{Free, Open, Empty, Made}
use Rattle.lk_arena.specs.declared.node.Shape.TheVariants as shape

-- a row without fields of its own that isn't the row without fields
loose_row : (s : Shape) → is_row_shape s ≡ true → is_fields s ≡ false → s ≢ Empty → s ≡ Open
loose_row Free row plain other = let f : false ≡ true = row in cc
loose_row Open row plain other = refl
loose_row Empty row plain other = absurd (other refl)
loose_row (Made h ps) row plain other = let f : false ≡ true = row in cc
loose_row (shape.Row fs t) row plain other = let f : true ≡ false = plain in cc

module _ (shapes : List Shape) (classes : List ℕ) (a b : ℕ) (fs gs : List Field) (s t : ℕ) (left : IsFlatOf shapes classes a fs s) (right : IsFlatOf shapes classes b gs t)
    (lefts rights : List Field) (lefts_are : lefts ≡ missing gs fs) (rights_are : rights ≡ missing fs gs) where
  pub are_tails : IsTail shapes classes s → IsTail shapes classes t → (s ≡ t → (length lefts ≡ 0) × (length rights ≡ 0)) → (length lefts ≢ 0 → shape_at shapes s ≢ Empty)
      → (length rights ≢ 0 → shape_at shapes t ≢ Empty) → AreTails shapes classes s t lefts rights
  are_tails left_tail right_tail same left_other right_other = record {
    left_below = left.below;
    right_below = right.below;
    left_named = left_tail.named;
    right_named = right_tail.named;
    left_nodes = subst (Each (λ f. f.node < length shapes)) (sym lefts_are) (Each-missing (λ f. f.node < length shapes) gs fs right.nodes);
    right_nodes = subst (Each (λ f. f.node < length shapes)) (sym rights_are) (Each-missing (λ f. f.node < length shapes) fs gs left.nodes);
    left_distinct = rw lefts_are (IsDistinct-missing gs fs right.distinct);
    right_distinct = rw rights_are (IsDistinct-missing fs gs left.distinct);
    left_loose = λ some. loose_row (shape_at shapes s) left_tail.row left_tail.plain (left_other some);
    right_loose = λ some. loose_row (shape_at shapes t) right_tail.row right_tail.plain (right_other some);
    same = same;
  }

  module _ (queue : List Pair) (shapes' : List Shape) (classes' : List ℕ) (queue' : List Pair) (joins : JoinsTails s t lefts rights shapes classes queue shapes' classes' queue') where
    pub joins_rows : (queue'' : List Pair) → queue'' ≡ queue' ++ common fs gs → JoinsRows a b fs gs s t shapes classes queue shapes' classes' queue''
    joins_rows queue'' is =
        subst (JoinsRows a b fs gs s t shapes classes queue shapes' classes') (sym is)
        (record {
          arena = joins.arena;
          longer = joins.longer;
          pairs = each_both (λ p. (p.left < length shapes') × (p.right < length shapes')) queue' (common fs gs) joins.pairs
              (AreNodePairs-more (length shapes) (length shapes') (common fs gs) joins.longer (AreNodePairs-common (length shapes) fs gs left.nodes right.nodes));
          back = λ v fits. joins.back v (WeakFits-less shapes' classes' queue' (common fs gs) v fits).0;
          rebuilt = λ v m x fits e row.
              let less = WeakFits-less shapes' classes' queue' (common fs gs) v fits in
              let both = joins.tails v m less.0 e in
              rows_rebuilt v fs gs (v s) (v t) both.0 x row (rw lefts_are at both.1) (rw rights_are at both.2) less.1 (AreFound-from_distinct fs left.distinct);
          covers = λ c covers.
              let less = covers_less shapes' classes' queue' (common fs gs) c covers in
              let both = joins.covers c less.0 in
              (both.0, joined_count c fs gs (c s) (c t) left.distinct right.distinct less.1 (rw (lefts_are, rights_are) at both.1));
          forth = λ v fits e.
              HasFit-more shapes shapes' classes' queue' (common fs gs) v (AreNodePairs-common (length shapes) fs gs left.nodes right.nodes)
              (flats_common shapes classes a b fs gs s t left right v fits.nodes e)
              (joins.forth v (flats_rest shapes classes a b fs gs s t left right v fits.nodes e) fits
              (rw lefts_are (flats_left shapes classes a b fs gs s t left right v fits.nodes e)) (rw rights_are (flats_right shapes classes a b fs gs s t left right v fits.nodes e)));
          kinds = λ kind k kinded equal l r f g.
              let h = joins.kinds kind k kinded equal l r (rw lefts_are (fields_missing kind k gs fs g)) (rw rights_are (fields_missing kind k fs gs f)) in (
                h.0,
                h.1,
                h.2,
                each_both (λ p. h.0 p.left ≡ h.0 p.right) queue' (common fs gs) h.3
                    (EqualKinds-same (length shapes) (common fs gs) kind h.0 h.1 (AreNodePairs-common (length shapes) fs gs left.nodes right.nodes) (common_kinds kind k fs gs f g)),
              );
          lighter = joins.lighter;
        })
