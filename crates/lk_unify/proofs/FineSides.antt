-- Which constraints are fine, by what their nodes make. Numbers that cover the nodes of the whole list bound the sizes of each first
-- part of it, so that one look at the whole list can be enough.
use Rattle.std.proofs.Common.{◌≡◌, ℕ, suc, ◌+◌, ◌<◌, ◌≤◌, true, List, [], ◌∷◌, ◌++◌, length, map, take, Option, Some, refl, sym, ◌∙◌, ap, subst, arith}
use Rattle.std.proofs.lemmas.List.{take-map}
use Rattle.std.specs.Option.{option_map}
use Rattle.std.proofs.lemmas.Option.{same_Some}
use Rattle.lk_types.specs.Each.{Each}
use Rattle.lk_types.specs.Sizes.{most_nodes}
use Rattle.lk_types.specs.Solutions.{HasSolution}
use Rattle.lk_types.specs.declared.equation.Equation.{Equation}
use Rattle.lk_unify.proofs.Firsts.{solution_first}
use Rattle.lk_unify.proofs.SideCounts.{few, too_many, most_late, within_first, within_less}
use Rattle.lk_unify.proofs.SideTypes.{are_sides, its_opening, own_sides, side_made, type_at}
use Rattle.lk_unify.proofs.SolvedForm.{own_solves}
use Rattle.lk_unify.proofs.ValueCounts.{own_counted}
use Rattle.lk_unify.proofs.Within.{own_agrees, own_of_nodes}
use Rattle.lk_arena.proofs.Counted.{counts_least}
use Rattle.lk_arena.specs.Counting.{saturated}
use Rattle.lk_arena.specs.Covering.{Covers}
use Rattle.lk_arena.specs.Kinds.{Kind, OfTypes}
use Rattle.lk_arena.specs.Openings.{IsOpenMet}
use Rattle.lk_arena.specs.Values.{Plain}
use Rattle.lk_unify.specs.Constraints.{end_of, equations_of, matters, AllFine, AreFine, AreLarge, IsFirstLarge}
use Rattle.lk_unify.specs.Nodes.{count, value_count}
use Rattle.lk_unify.specs.SideSizes.{sizings_of, AllMakeFew, AreAllWithin, HasFew, IsFirstMany, MakeFew, MakeMany}
use Rattle.lk_unify.specs.Small.{OwnNodes}
use Rattle.lk_unify.specs.Solving.{AreSides as AreSideNodes, HadNodes, HasNodes, IsSide}
use Rattle.lk_unify.specs.declared.constraint.Constraint.{Constraint}
use Rattle.lk_unify.specs.declared.constraint.Sizing.{Sizing}
use Rattle.lk_unify.specs.declared.constraint.Sizing.TheVariants.{Late}
use Rattle.lk_unify.specs.declared.loader.Loader.{Loader}

-- ---- one list

module _ (cs : List Constraint) (solution : HasSolution (equations_of cs)) where
  pub fine_of : MakeFew cs → AreFine cs
  fine_of has = (has.0.types, are_sides has.0.own solution has.0.types has.0.makes, few (end_of cs) cs has.0.types has.1)

  pub large_of : MakeMany cs → AreLarge cs
  large_of has = (has.0.types, are_sides has.0.own solution has.0.types has.0.makes, too_many (end_of cs) cs has.0.types has.1)

-- ---- the first of it

-- Of nodes to which others came no side is larger than what the number of its node says there, where the numbers cover all nodes.
module _ (l : Loader) (kind : ℕ → Kind) (sides : List ℕ) (c of : ℕ → ℕ) (covers : Covers l.arena.shapes l.arena.classes c) (some : (i : ℕ) → i < length l.arena.shapes → kind i ≡ OfTypes → 1 ≤ c i)
    (counts : (i : ℕ) → i < length l.arena.shapes → kind i ≡ OfTypes → of i ≡ saturated (c i)) where
  module _ (es : List Equation) (had : HadNodes es l kind sides) (solution : HasSolution es) (end : Option Sizing) where
    abbrev part : HasNodes es
    part = had.0

    abbrev p : OwnNodes es
    p = own_of_nodes part solution

    node_below : (n : ℕ) → n < length part.loader.arena.shapes → value_count 0 (part.kind n) (p.values n) ≤ c n
    node_below n below =
        counts_least part.loader.arena.shapes part.loader.arena.classes part.says.whole.arena part.kind part.kinded.nodes p.rank p.ranked (λ i. value_count 0 (part.kind i) (p.values i)) c
        (own_counted part.loader.arena.shapes part.loader.arena.classes part.kind part.says.whole.arena part.kinded.nodes p.name p.values p.own 0)
        (had.1.covers c covers) (λ i b is. some i (omega (arith, had.1.longer)) (had.1.kinds i b ∙ is)) n below

    side_within : (e : Equation) (n : ℕ) → IsSide part.loader e n → part.kind n ≡ OfTypes → IsOpenMet (its_opening p) e → of n ≤ most_nodes → count 0 (type_at p n) ≤ most_nodes
    side_within e n side types met within =
        let meaning = side.meaning p.values (its_opening p) p.own.fits (own_agrees p) in
        let is : p.values n ≡ Plain (type_at p n) = sym (same_Some (Plain (type_at p n)) (p.values n) (sym (ap (option_map Plain) (side_made p e n side met).0) ∙ meaning)) in
        let least : value_count 0 OfTypes (p.values n) ≤ c n = subst (λ k. value_count 0 k (p.values n) ≤ c n) types (node_below n side.below) in
        let here : value_count 0 OfTypes (p.values n) ≡ count 0 (type_at p n) = ap (value_count 0 OfTypes) is in
        let there = counts n (omega (arith, side.below, had.1.longer)) (had.1.kinds n side.below ∙ types) in
        omega arith

    few_below : (xs : List Equation) (ns : List ℕ) (ss : List Sizing) → AreSideNodes part.loader xs ns → Each (λ n. part.kind n ≡ OfTypes) ns → Each (IsOpenMet (its_opening p)) xs →
        AreAllWithin end ss (map of ns) → AreAllWithin end ss (map (count 0) (map (type_at p) ns))
    few_below [] [] [] sides types met within = tt
    few_below [] [] (s ∷ ss) sides types met within = tt
    few_below (e ∷ xs) (n ∷ ns) [] sides types met within = tt
    few_below (e ∷ xs) (n ∷ ns) (s ∷ ss) sides types met within =
        ((λ (m : matters end s ≡ true). side_within e n sides.0 types.0 met.0 (within.0 m)), few_below xs ns ss sides.1 types.1 met.1 within.1)
    few_below [] (n ∷ ns) ss sides types met within = absurd sides
    few_below (e ∷ xs) [] ss sides types met within = absurd sides

    pub first_few : (ss : List Sizing) (k : ℕ) → AreAllWithin end ss (map of sides) → HasFew end es (take k ss)
    first_few ss k within =
        let first : AreAllWithin end ss (map of (part.sides ++ had.1.first.0)) = subst (λ ns. AreAllWithin end ss (map of ns)) had.1.first.1 within in (
          own_sides p part.sides part.sides_are,
          few_below es part.sides (take k ss) part.sides_are part.types (own_solves es p) (within_first end of k ss part.sides had.1.first.0 first),
        )

pub as_many : (cs : List Constraint) → length (equations_of cs) ≡ length cs
as_many [] = refl
as_many (c ∷ cs) = ap suc (as_many cs)

pub equations_taken : (cs : List Constraint) (k : ℕ) → take k (equations_of cs) ≡ equations_of (take k cs)
equations_taken cs k = take-map (λ c. c.equation) k cs

pub solution_taken : (cs : List Constraint) (k : ℕ) → HasSolution (equations_of cs) → HasSolution (equations_of (take k cs))
solution_taken cs k solution = subst HasSolution (equations_taken cs k) (solution_first (equations_of cs) k solution)

-- where no size that matters anywhere is too large by these numbers, no first part has one that is
module _ (l : Loader) (kind : ℕ → Kind) (sides : List ℕ) (c of : ℕ → ℕ) (covers : Covers l.arena.shapes l.arena.classes c) (some : (i : ℕ) → i < length l.arena.shapes → kind i ≡ OfTypes → 1 ≤ c i)
    (counts : (i : ℕ) → i < length l.arena.shapes → kind i ≡ OfTypes → of i ≡ saturated (c i)) where
  pub all_few : (cs : List Constraint) → AreAllWithin (Some Late) (sizings_of cs) (map of sides) → HasSolution (equations_of cs) →
      ((j : ℕ) → j ≤ length (equations_of cs) → HadNodes (take j (equations_of cs)) l kind sides) → AllMakeFew cs
  all_few cs all solution nodes k h =
      let few_late : HasFew (Some Late) (equations_of (take k cs)) (sizings_of (take k cs)) =
      subst (λ es. HasFew (Some Late) es (sizings_of (take k cs))) (equations_taken cs k)
      (subst (λ ss. HasFew (Some Late) (take k (equations_of cs)) ss) (take-map (λ c. c.sizing) k cs)
      (first_few l kind sides c of covers some counts (take k (equations_of cs)) (nodes k within) (solution_first (equations_of cs) k solution) (Some Late) (sizings_of cs) k all)) in
      (few_late.0, within_less (Some Late) (end_of (take k cs)) (most_late (end_of (take k cs))) (sizings_of (take k cs)) (map (count 0) few_late.0.types) few_late.1)
    where
      within : k ≤ length (equations_of cs)
      within = subst (λ n. k ≤ n) (sym (as_many cs)) h

-- ---- which are fine

pub all_fine : (cs : List Constraint) → HasSolution (equations_of cs) → AllMakeFew cs → AllFine cs
all_fine cs solution all k h = fine_of (take k cs) (solution_taken cs k solution) (all k h)

pub first_large : (cs : List Constraint) (k : ℕ) → HasSolution (equations_of cs) → IsFirstMany cs k → IsFirstLarge cs k
first_large cs k solution first = record {
  within = first.within;
  fine = all_fine (take k cs) (solution_taken cs k solution) first.few;
  large = large_of (take (k + 1) cs) (solution_taken cs (k + 1) solution) first.many;
}
