-- Fields before another row in the place of a row of which nothing was known.
use Rattle.std.proofs.Common.{◌≡◌, ◌≢◌, ℕ, ◌+◌, ◌<◌, ◌≤◌, ⊎_elim, List, [], ◌∷◌, length, length-set, map, set, refl, sym, ◌∙◌, ap, subst, arith}
use Rattle.std.proofs.lemmas.Bool.{cases_eq}
use Rattle.std.proofs.lemmas.List.{get_or-set_same, get_or-set_other}
use Rattle.lk_types.proofs.Members.{each_to_map}
use Rattle.lk_types.specs.Each.{Each}
use Rattle.lk_arena.proofs.Covering.{row_covered}
use Rattle.lk_arena.proofs.Growth.{HasFields-some}
use Rattle.lk_arena.proofs.Kinded.{kinds_bind}
use Rattle.lk_arena.proofs.Weights.{weight-bind}
use Rattle.lk_arena.specs.Covering.{fields_count, Covers, IsCovered}
use Rattle.lk_arena.specs.Measures.{weight}
use Rattle.lk_arena.specs.Shapes.{shape_at, is_loose_shape, parts_of, IsArena, IsBuilt, IsDistinct, IsRowOf, FitsNodes, WeakNodes, HasFields, fields_in}
use Rattle.lk_arena.specs.Steps.{CanBind, Binds}
use Rattle.lk_arena.specs.Values.{Value}
use Rattle.lk_arena.specs.declared.node.Field.{Field}
use Rattle.lk_arena.specs.declared.node.Shape.{Shape}
use Rattle.lk_arena.specs.declared.node.Shape.TheVariants.{Free}
use Rattle.lk_arena.specs.declared.node.Shape.TheVariants as shape

module _ (shapes new : List Shape) (classes names : List ℕ) (node : ℕ) (fields : List Field) (tail : ℕ) (arena : IsArena shapes classes) (can : CanBind shapes classes node fields tail)
    (is : new ≡ set shapes node (shape.Row fields tail)) (same : names ≡ classes) where
  count : length new ≡ length shapes
  count = rw (is, length-set) refl

  bound_at : shape_at new node ≡ shape.Row fields tail
  bound_at = rw is (get_or-set_same shapes node (shape.Row fields tail) Free can.below)

  bound_other : (i : ℕ) → i ≢ node → shape_at new i ≡ shape_at shapes i
  bound_other i ne = rw is (get_or-set_other shapes node i (shape.Row fields tail) Free ne)

  -- what holds of all shapes and of the new one
  each_shape : (P : ℕ → Shape → Type 0) → P node (shape.Row fields tail) → ((i : ℕ) → i < length shapes → i ≢ node → P i (shape_at shapes i))
      → (i : ℕ) → i < length new → P i (shape_at new i)
  each_shape P one others i h =
      ⊎_elim
      (λ (e : i ≡ node). subst (λ k. P k (shape_at new k)) (sym e) (subst (P node) (sym bound_at) one))
      (λ (ne : i ≢ node). subst (P i) (sym (bound_other i ne)) (others i (omega (arith, count)) ne))
      (cases_eq i node)

  bound_arena : IsArena new names
  bound_arena = record {
    nodes = each_shape (λ i s. Each (λ p. p < length new) (parts_of s))
        (subst (λ n. Each (λ p. p < n) (tail ∷ map (λ f. f.node) fields)) (sym count)
        (can.tail_below, each_to_map (λ p. p < length shapes) (λ (f : Field). f.node) fields can.nodes))
        (λ i h ne. subst (λ n. Each (λ p. p < n) (parts_of (shape_at shapes i))) (sym count) (arena.nodes i h));
    named = rw (count, same) arena.named;
    distinct = each_shape (λ i s. IsDistinct (fields_in s)) can.distinct (λ i h ne. arena.distinct i h);
    filled = each_shape (λ i s. HasFields s) (HasFields-some fields tail can.some) (λ i h ne. arena.filled i h);
  }

  module _ (v : ℕ → Value) (fits : WeakNodes new names v) where
    bound_row : IsRowOf fields v (v tail) (v node)
    bound_row = subst (λ s. IsBuilt s v (v node)) bound_at (fits.builds node (let b = can.below in omega (arith, count)) (rw same can.named))

    bound_back : WeakNodes shapes classes v
    bound_back = record {
      builds = λ i h named. ⊎_elim
          (λ (e : i ≡ node). subst (λ k. IsBuilt (shape_at shapes k) v (v k)) (sym e) (subst (λ s. IsBuilt s v (v node)) (sym can.loose) (bound_row.row, bound_row.row_is)))
          (λ (ne : i ≢ node). subst (λ s. IsBuilt s v (v i)) (bound_other i ne) (fits.builds i (omega (arith, count)) (rw same named)))
          (cases_eq i node);
      respects = rw same at fits.respects;
    }

  module _ (c : ℕ → ℕ) (covers : Covers new names c) where
    bound_count : c node ≡ fields_count c fields + c tail
    bound_count = row_covered c (shape_at new node) fields tail (c node) bound_at (covers.builds node (let b = can.below in omega (arith, count)) (rw same can.named))

    -- fields count something
    bound_some : 1 ≤ c node
    bound_some = let n = bound_count in let s = some_count fields can.some in omega arith
      where
        some_count : (fs : List Field) → length fs ≢ 0 → 1 ≤ fields_count c fs
        some_count [] some = absurd (some refl)
        some_count (f ∷ fs) some = omega arith

    bound_covers : Covers shapes classes c
    bound_covers = record {
      builds = λ i h named. ⊎_elim
          (λ (e : i ≡ node). subst (λ k. IsCovered (shape_at shapes k) c (c k)) (sym e) (subst (λ s. IsCovered s c (c node)) (sym can.loose) bound_some))
          (λ (ne : i ≢ node). subst (λ s. IsCovered s c (c i)) (bound_other i ne) (covers.builds i (omega (arith, count)) (rw same named)))
          (cases_eq i node);
      same = rw same at covers.same;
      loose = λ i h loose. ⊎_elim
          (λ (e : i ≡ node). subst (λ k. 1 ≤ c k) (sym e) bound_some)
          (λ (ne : i ≢ node). covers.loose i (omega (arith, count)) (ap is_loose_shape (bound_other i ne) ∙ loose))
          (cases_eq i node);
    }

  bound_forth : (v : ℕ → Value) → FitsNodes shapes classes v → IsRowOf fields v (v tail) (v node) → FitsNodes new names v
  bound_forth v fits row = record {
    builds = each_shape (λ i s. IsBuilt s v (v i)) row (λ i h ne. fits.builds i h);
    respects = rw same fits.respects;
  }

  bound_lighter : weight new names < weight shapes classes
  bound_lighter = rw same (weight-bind shapes new classes node fields tail count can.below can.named can.loose bound_at bound_other)

  pub binds : Binds node fields tail shapes classes new names
  binds = record {
    arena = bound_arena;
    count = count;
    names = same;
    others = bound_other;
    back = bound_back;
    row = bound_row;
    covers = λ c covers. (bound_covers c covers, bound_count c covers);
    forth = bound_forth;
    kinds = kinds_bind shapes new classes names node fields tail count same bound_at bound_other;
    lighter = bound_lighter;
  }
