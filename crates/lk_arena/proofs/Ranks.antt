-- Ranks given one after another.
use Rattle.std.proofs.Common.{◌≡◌, ◌≢◌, ℕ, zero, suc, ◌+◌, ◌<◌, ⊎_elim, List, [], ◌∷◌, length, set, refl, sym, ◌∙◌, ap, subst, arith, Option, Some, None, true, false}
use Rattle.std.proofs.lemmas.Bool.{cases_eq}
use Rattle.std.proofs.lemmas.List.{get_or-set_same, get_or-set_other}
use Rattle.std.specs.Prelude.{is_some, IsSome}
use Rattle.lk_types.proofs.Members.{each_weaker}
use Rattle.lk_types.specs.Each.{Each}
use Rattle.lk_arena.proofs.EachLemmas.{Each-zip}
use Rattle.lk_arena.specs.Order.{rank_at, HasRankBelow, IsPartlyRanked, unknown}
use Rattle.lk_classes.specs.Classes.{class_at, AreClasses}
use Rattle.lk_arena.specs.Shapes.{shape_at, parts_of, AreNodes}
use Rattle.lk_arena.specs.declared.node.Shape.{Shape}

pub none_from_is_some : (o : Option ℕ) → is_some o ≡ false → o ≡ None
none_from_is_some None e = refl
none_from_is_some (Some r) e = let f : true ≡ false = e in cc

pub some_of : (o : Option ℕ) → IsSome o → (r : ℕ) × (o ≡ Some r)
some_of None h = absurd (grind arith)
some_of (Some r) h = (r, refl)

pub unknown-set : (ranks : List (Option ℕ)) (i r : ℕ) → i < length ranks → rank_at ranks i ≡ None → unknown (set ranks i (Some r)) + 1 ≡ unknown ranks
unknown-set [] i r h e = absurd (omega arith)
unknown-set (None ∷ rs) zero r h e = omega arith
unknown-set (Some q ∷ rs) zero r h e = let f : Some q ≡ None = e in cc
unknown-set (None ∷ rs) (suc i) r h e = let t = unknown-set rs i r (omega arith) e in omega arith
unknown-set (Some q ∷ rs) (suc i) r h e = unknown-set rs i r (omega arith) e

module _ (ranks : List (Option ℕ)) (i next : ℕ) (below : i < length ranks) (free : rank_at ranks i ≡ None) where
  -- a rank that was given stays
  stays : (j r : ℕ) → rank_at ranks j ≡ Some r → rank_at (set ranks i (Some next)) j ≡ Some r
  stays j r e =
      let ne : j ≢ i = λ h. (let f : Some r ≡ None = sym e ∙ ap (rank_at ranks) h ∙ free in cc) in
      get_or-set_other ranks i j (Some next) None ne ∙ e

  HasRankBelow-stays : (r p : ℕ) → HasRankBelow ranks r p → HasRankBelow (set ranks i (Some next)) r p
  HasRankBelow-stays r p h = (h.0, stays p h.0 h.1, h.2)

  pub ranked_more :
      (shapes : List Shape) (classes : List ℕ) → i < length shapes → IsPartlyRanked shapes classes ranks next → AreNodes shapes → AreClasses (length shapes) classes →
      Each (λ p. IsSome (rank_at ranks (class_at classes p))) (parts_of (shape_at shapes i)) → IsPartlyRanked shapes classes (set ranks i (Some next)) (next + 1)
  ranked_more shapes classes at ranked nodes named parts j r h e =
      ⊎_elim
      (λ (is : j ≡ i).
      let f : Some next ≡ Some r = sym (get_or-set_same ranks i (Some next) None below) ∙ ap (rank_at (set ranks i (Some next))) (sym is) ∙ e in
      let g : next ≡ r = cc in
      let all : Each (λ p. HasRankBelow (set ranks i (Some next)) next (class_at classes p)) (parts_of (shape_at shapes i)) =
      Each-zip (λ p. IsSome (rank_at ranks (class_at classes p))) (λ p. p < length shapes) (λ p. HasRankBelow (set ranks i (Some next)) next (class_at classes p))
      (λ p some b.
      let o = some_of (rank_at ranks (class_at classes p)) some in
      HasRankBelow-stays next (class_at classes p) (o.0, o.1, (ranked (class_at classes p) o.0 (named.below p b) o.1).0))
      (parts_of (shape_at shapes i)) parts (nodes i at) in (
        omega arith,
        subst (λ q. Each (λ p. HasRankBelow (set ranks i (Some next)) q (class_at classes p)) (parts_of (shape_at shapes j))) g
            (subst (λ k. Each (λ p. HasRankBelow (set ranks i (Some next)) next (class_at classes p)) (parts_of (shape_at shapes k))) (sym is) all),
      ))
      (λ (ne : j ≡ i → ⊥).
      let old = ranked j r h (sym (get_or-set_other ranks i j (Some next) None ne) ∙ e) in
      let less : r < next = old.0 in (
        omega arith,
        each_weaker (λ p. HasRankBelow ranks r (class_at classes p)) (λ p. HasRankBelow (set ranks i (Some next)) r (class_at classes p))
            (λ p. HasRankBelow-stays r (class_at classes p)) (parts_of (shape_at shapes j)) old.1,
      ))
      (cases_eq j i)
