-- Two rows of which all fields are known, where they are one row: their common fields are equal, and each tail has what the other
-- row has besides, before one new row.
use Rattle.std.proofs.Common.{◌≡◌, ◌≢◌, ℕ, ◌<◌, List, [], ◌∷◌, ◌++◌, length, refl, sym, ap, subst, Option, Some, None}
use Rattle.lk_types.proofs.Members.{each_both, each_front, each_back}
use Rattle.lk_types.specs.Each.{Each}
use Rattle.lk_arena.proofs.Joins.{Equates-same}
use Rattle.lk_arena.proofs.RowAlgebra.{Each-missing, rows_common, rest, rows_left, rows_right, same_tail_left, empty_left, found_prop, AreFound-from_distinct}
use Rattle.lk_arena.specs.Openings.{OpenRow}
use Rattle.lk_arena.specs.Shapes.{shape_at, found_at, IsRowOf, IsBuilt, Equates, AreNodePairs, FitsNodes, Fits, WeakNodes, WeakFits, HasFit, IsFlatOf, missing, common, pair_common}
use Rattle.lk_arena.specs.Values.{Value, OfRow}
use Rattle.lk_arena.specs.declared.node.Field.{Field}
use Rattle.lk_arena.specs.declared.node.Pair.{Pair}
use Rattle.lk_arena.specs.declared.node.Shape.{Shape}
use Rattle.lk_arena.specs.declared.node.Shape.TheVariants.{Empty}

none_of : {A : Type 0} (xs : List A) → Each (λ x. ⊥) xs → length xs ≢ 0 → ⊥
none_of [] e h = h refl
none_of (x ∷ xs) e h = e.0

pub AreNodePairs-common : (n : ℕ) (fs gs : List Field) → Each (λ f. f.node < n) fs → Each (λ f. f.node < n) gs → AreNodePairs n (common fs gs)
AreNodePairs-common n [] gs d e = tt
AreNodePairs-common n (f ∷ fs) gs d e = with_rest (found_at gs f.label) refl (AreNodePairs-common n fs gs d.1 e)
  where
    with_rest : (o : Option ℕ) → found_at gs f.label ≡ o → AreNodePairs n (common fs gs) → AreNodePairs n (pair_common o f.node (common fs gs))
    with_rest None is r = r
    with_rest (Some m) is r = ((d.0, found_prop (λ k. k < n) gs f.label m e is), r)

module _ (shapes : List Shape) (classes : List ℕ) (a b : ℕ) (fs gs : List Field) (ta tb : ℕ) (left : IsFlatOf shapes classes a fs ta) (right : IsFlatOf shapes classes b gs tb)
    (v : ℕ → Value) (fits : FitsNodes shapes classes v) (e : v a ≡ v b) where
  L : IsRowOf fs v (v ta) (v a)
  L = left.rows v fits

  R : IsRowOf gs v (v tb) (v a)
  R = subst (λ x. IsRowOf gs v (v tb) x) (sym e) (right.rows v fits)

  distinct_left : Each (λ f. found_at fs f.label ≡ Some f.node) (missing fs gs)
  distinct_left = Each-missing (λ f. found_at fs f.label ≡ Some f.node) fs gs (AreFound-from_distinct fs left.distinct)

  distinct_right : Each (λ f. found_at gs f.label ≡ Some f.node) (missing gs fs)
  distinct_right = Each-missing (λ f. found_at gs f.label ≡ Some f.node) gs fs (AreFound-from_distinct gs right.distinct)

  pub flats_common : Equates (common fs gs) v
  flats_common = rows_common v fs gs (v ta) (v tb) (v a) L R (AreFound-from_distinct fs left.distinct)

  pub flats_rest : OpenRow
  flats_rest = rest v fs gs (v ta) (v tb) (v a) L R

  pub flats_left : IsRowOf (missing gs fs) v (OfRow flats_rest) (v ta)
  unfolding flats_rest
  flats_left = rows_left v fs gs (v ta) (v tb) (v a) L R (AreFound-from_distinct gs right.distinct)

  pub flats_right : IsRowOf (missing fs gs) v (OfRow flats_rest) (v tb)
  unfolding flats_rest
  flats_right = rows_right v fs gs (v ta) (v tb) (v a) L R (AreFound-from_distinct fs left.distinct)

  pub clash_same_right : ta ≡ tb → length (missing fs gs) ≢ 0 → ⊥
  clash_same_right t n = none_of (missing fs gs) (same_tail_left v fs gs (v ta) (v tb) (v a) L R (ap v t) distinct_left) n

  pub clash_same_left : ta ≡ tb → length (missing gs fs) ≢ 0 → ⊥
  clash_same_left t n = none_of (missing gs fs) (same_tail_left v gs fs (v tb) (v ta) (v a) R L (ap v (sym t)) distinct_right) n

  pub clash_left : shape_at shapes ta ≡ Empty → length (missing gs fs) ≢ 0 → ⊥
  clash_left s n =
      none_of (missing gs fs)
      (empty_left v fs gs (v ta) (v tb) (v a) L R (subst (λ s. IsBuilt s v (v ta)) s (fits.builds ta left.below)) distinct_right) n

  pub clash_right : shape_at shapes tb ≡ Empty → length (missing fs gs) ≢ 0 → ⊥
  clash_right s n =
      none_of (missing fs gs)
      (empty_left v gs fs (v tb) (v ta) (v a) R L (subst (λ s. IsBuilt s v (v tb)) s (fits.builds tb right.below)) distinct_left) n

pub HasFit-more :
    (old shapes : List Shape) (names : List ℕ) (q cs : List Pair) (v : ℕ → Value) → AreNodePairs (length old) cs → Equates cs v → HasFit old shapes names q v → HasFit old shapes names (q ++ cs) v
HasFit-more old shapes names q cs v within equates h = (
  h.0,
  h.1,
  record {
    nodes = h.2.nodes;
    equates = each_both (λ p. h.0 p.left ≡ h.0 p.right) q cs h.2.equates (Equates-same (length old) cs v h.0 h.1 within equates);
  },
)

-- a flat row stays one where values that fit afterwards fitted before
pub IsFlatOf-later :
    (ss more : List Shape) (cs ds : List ℕ) (row : ℕ) (fs : List Field) (tail : ℕ) → more ≡ ss → ((v : ℕ → Value) → FitsNodes more ds v → FitsNodes ss cs v) → IsFlatOf ss cs row fs tail →
    IsFlatOf more ds row fs tail
IsFlatOf-later ss more cs ds row fs tail e back flat = record {
  distinct = flat.distinct;
  nodes = subst (λ m. Each (λ f. f.node < length m) fs) (sym e) flat.nodes;
  below = subst (λ m. tail < length m) (sym e) flat.below;
  rows = λ v fits. flat.rows v (back v fits);
}

pub Fits-with : (ss : List Shape) (cs : List ℕ) (q : List Pair) (v : ℕ → Value) → FitsNodes ss cs v → Equates q v → Fits ss cs q v
Fits-with ss cs q v fits equates = record { nodes = fits; equates = equates }

pub HasFit-at : (old more shapes : List Shape) (names : List ℕ) (q : List Pair) (v : ℕ → Value) → more ≡ old → HasFit more shapes names q v → HasFit old shapes names q v
HasFit-at old more shapes names q v e h = rw (← e) h

pub WeakFits-less : (shapes : List Shape) (names : List ℕ) (q cs : List Pair) (v : ℕ → Value) → WeakFits shapes names (q ++ cs) v → WeakFits shapes names q v × Equates cs v
WeakFits-less shapes names q cs v fits =
    (record { nodes = fits.nodes; equates = each_front (λ p. v p.left ≡ v p.right) q cs fits.equates }, each_back (λ p. v p.left ≡ v p.right) q cs fits.equates)

pub WeakFits-with : (ss : List Shape) (cs : List ℕ) (q : List Pair) (v : ℕ → Value) → WeakNodes ss cs v → Equates q v → WeakFits ss cs q v
WeakFits-with ss cs q v fits equates = record { nodes = fits; equates = equates }
