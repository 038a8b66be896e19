-- Ranks with the nodes in the order of their ranks, one more, and an order in which parts come first.
use Rattle.std.proofs.Common.{◌≡◌, ℕ, ◌+◌, ◌<◌, ⊎_elim, List, [], ◌∷◌, ◌++◌, length, set, take, sym, ◌∙◌, ap, arith, Option, Some, None}
use Rattle.std.proofs.lemmas.Bool.{cases_eq}
use Rattle.std.proofs.lemmas.List.{length-set, length-append, length-replicate, length-take-le, get_or-set_same, get_or-set_other, get_or_append_left, get_or-take}
use Rattle.std.proofs.Math.Seq.{get_or-append_seam}
use Rattle.std.specs.Prelude.{IsSome, replicate, slice_index_or as get_or}
use Rattle.lk_types.specs.Each.{Each}
use Rattle.lk_arena.proofs.EachLemmas.{Each-zip, Each-of_all, OneOf-get_or}
use Rattle.lk_arena.proofs.Ordered.{rank_at-none, unknown-none}
use Rattle.lk_arena.proofs.Ranks.{some_of, unknown-set, ranked_more}
use Rattle.lk_arena.specs.Counting.{IsAmong, IsPartsFirst}
use Rattle.lk_arena.specs.Order.{rank_at, HasRankBelow, IsRanking}
use Rattle.lk_classes.specs.Classes.{class_at, AreClasses}
use Rattle.lk_arena.specs.Shapes.{shape_at, parts_of, AreNodes}
use Rattle.lk_arena.specs.declared.node.Shape.{Shape}

pub ranking_start : (shapes : List Shape) (classes : List ℕ) → IsRanking shapes classes (replicate (length shapes) None) []
ranking_start shapes classes = record {
  count = length-replicate (length shapes) None;
  ranked = λ i r b h. (let f : Some r ≡ None = sym h ∙ rank_at-none (length shapes) i in cc);
  room = rw unknown-none (omega arith);
  at = λ k h. absurd (omega arith);
  back = λ i r b h. (let f : Some r ≡ None = sym h ∙ rank_at-none (length shapes) i in cc);
}

module _ (shapes : List Shape) (classes : List ℕ) (ranks : List (Option ℕ)) (order : List ℕ) (ranking : IsRanking shapes classes ranks order) where
  module _ (i : ℕ) (below : i < length shapes) (free : rank_at ranks i ≡ None) where
    place : i < length ranks
    place = let e : length ranks ≡ length shapes = ranking.count in omega arith

    more_at : (k : ℕ) → k < length (order ++ i ∷ []) → (get_or (order ++ i ∷ []) k 0 < length shapes) × (rank_at (set ranks i (Some (length order))) (get_or (order ++ i ∷ []) k 0) ≡ Some k)
    more_at k h =
        ⊎_elim
        (λ (is : k ≡ length order).
        let e : get_or (order ++ i ∷ []) k 0 ≡ i = ap (λ n. get_or (order ++ i ∷ []) n 0) is ∙ get_or-append_seam order i [] 0 in (
          rw e below,
          rw e (get_or-set_same ranks i (Some (length order)) None place ∙ ap (λ n. Some n) (sym is)),
        ))
        (λ (ne : k ≡ length order → ⊥).
        let n : length (order ++ i ∷ []) ≡ length order + 1 = length-append order (i ∷ []) in
        let l : k < length order = omega arith in
        let e : get_or (order ++ i ∷ []) k 0 ≡ get_or order k 0 = get_or_append_left order (i ∷ []) 0 k l in
        let old = ranking.at k l in
        let apart : get_or order k 0 ≡ i → ⊥ = λ f. (let g : Some k ≡ None = sym old.1 ∙ ap (rank_at ranks) f ∙ free in cc) in (
          rw e old.0,
          rw e (get_or-set_other ranks i (get_or order k 0) (Some (length order)) None apart ∙ old.1),
        ))
        (cases_eq k (length order))

    more_back : (j r : ℕ) → j < length shapes → rank_at (set ranks i (Some (length order))) j ≡ Some r → get_or (order ++ i ∷ []) r 0 ≡ j
    more_back j r h e =
        ⊎_elim
        (λ (is : j ≡ i).
        let f : Some (length order) ≡ Some r = sym (get_or-set_same ranks i (Some (length order)) None place) ∙ ap (rank_at (set ranks i (Some (length order)))) (sym is) ∙ e in
        let g : length order ≡ r = cc in
        ap (λ n. get_or (order ++ i ∷ []) n 0) (sym g) ∙ get_or-append_seam order i [] 0 ∙ sym is)
        (λ (ne : j ≡ i → ⊥).
        let old : rank_at ranks j ≡ Some r = sym (get_or-set_other ranks i j (Some (length order)) None ne) ∙ e in
        get_or_append_left order (i ∷ []) 0 r (ranking.ranked j r h old).0 ∙ ranking.back j r h old)
        (cases_eq j i)

    pub ranking_more :
        AreNodes shapes → AreClasses (length shapes) classes → Each (λ p. IsSome (rank_at ranks (class_at classes p))) (parts_of (shape_at shapes i)) →
        IsRanking shapes classes (set ranks i (Some (length order))) (order ++ i ∷ [])
    ranking_more nodes named parts = record {
      count = length-set ranks i (Some (length order)) ∙ ranking.count;
      ranked = rw (length-append order (i ∷ [])) (ranked_more ranks i (length order) place free shapes classes below ranking.ranked nodes named parts);
      room =
          let u = unknown-set ranks i (length order) place free in
          let n : length (order ++ i ∷ []) ≡ length order + 1 = length-append order (i ∷ []) in
          let l = ranking.room in
          omega arith;
      at = more_at;
      back = more_back;
    }

  module _ (named : AreClasses (length shapes) classes) where
    among : (k p : ℕ) → k < length order → HasRankBelow ranks k (class_at classes p) → p < length shapes → IsAmong classes (take k order) p
    among k p h b l =
        let n : length (take k order) ≡ k = length-take-le k order (omega arith) in
        let s : b.0 < k = b.2 in
        OneOf-get_or (λ d. d ≡ class_at classes p) (take k order) b.0 0 (omega arith) (get_or-take k order b.0 0 b.2 ∙ ranking.back (class_at classes p) b.0 (named.below p l) b.1)

    pub parts_first_of :
        AreNodes shapes → ((i : ℕ) → i < length classes → class_at classes i ≡ i → IsSome (rank_at ranks i)) → IsPartsFirst shapes classes order
    parts_first_of nodes known = record {
      nodes = Each-of_all (λ i. i < length shapes) order 0 (λ k h. (ranking.at k h).0);
      parts = λ k h.
          (let n = ranking.at k h in
          Each-zip (λ p. HasRankBelow ranks k (class_at classes p)) (λ p. p < length shapes) (IsAmong classes (take k order)) (λ p. among k p h)
          (parts_of (shape_at shapes (get_or order k 0))) (ranking.ranked (get_or order k 0) k n.0 n.1).1 (nodes (get_or order k 0) n.0));
      whole = λ i h name.
          (let c : length classes ≡ length shapes = named.count in
          let o = some_of (rank_at ranks i) (known i (omega arith) name) in
          OneOf-get_or (λ d. d ≡ i) order o.0 0 (ranking.ranked i o.0 h o.1).0 (ranking.back i o.0 h o.1));
    }
