-- The first of constraints whose equations and sizings are lists of their own: which of their first parts make no size too large that
-- matters, and what is first of theirs is first of all.
use Rattle.std.proofs.Common.{◌≡◌, ℕ, ◌+◌, ◌<◌, ◌≤◌, Bool, true, List, length, map, take, get_or, Option, Some, None, sym, ◌∙◌, ap, subst, arith}
use Rattle.std.proofs.lemmas.List.{length-take-le}
use Rattle.std.specs.Prelude.{is_some, not, IfNone, IfSome}
use Rattle.lk_types.specs.Solutions.{HasSolution}
use Rattle.lk_types.specs.declared.equation.Equation.{Equation}
use Rattle.lk_unify.proofs.Decided.{says_all}
use Rattle.lk_unify.proofs.FineSides.{all_few}
use Rattle.lk_unify.proofs.FineSides as sides
use Rattle.lk_unify.proofs.Firsts.{all_first, first_of_first, one_more, solution_first}
use Rattle.lk_unify.proofs.Joined.{end_first, equations_first, equations_joined, joined_first, joined_length, sizings_first, sizings_joined}
use Rattle.lk_unify.proofs.SideCounts.{beyond_more, by_late, within_less}
use Rattle.lk_unify.proofs.SideTypes.{has_few, has_many}
use Rattle.lk_unify.proofs.Within.{loaded_first, ranking}
use Rattle.lk_arena.proofs.Counted.{count_by, counts_cover, counts_exist, types_some}
use Rattle.lk_arena.specs.Counting.{count_at, saturated, AreCounted, CountOnceOpen, IsCountOf}
use Rattle.lk_arena.specs.Kinds.{Kind, OfTypes}
use Rattle.lk_arena.specs.Order.{IsRanked}
use Rattle.lk_arena.specs.Shapes.{IsArena}
use Rattle.lk_arena.specs.declared.counting.Count.{Count}
use Rattle.lk_arena.specs.declared.node.Shape.{Shape}
use Rattle.lk_unify.specs.Constraints.{end_of, equations_of, matters, AllFine, AreLarge, IsFirstLarge, IsFirstUnmet}
use Rattle.lk_unify.specs.Nodes.{count}
use Rattle.lk_unify.specs.SideSizes.{is_late, joined, last_by, sizings_of, AllMakeFew, AreAllWithin, CountFew, CountMany, HasFew, HasMany, IsFirstMany, MakeFew}
use Rattle.lk_unify.specs.Solving.{AreLoaded, HadNodes, IsFirstWithout}
use Rattle.lk_unify.specs.declared.constraint.Constraint.{Constraint}
use Rattle.lk_unify.specs.declared.constraint.Sizing.{Sizing}
use Rattle.lk_unify.specs.declared.constraint.Sizing.TheVariants.{Late}
use Rattle.lk_unify.specs.declared.solvable.Loaded.{Loaded}

pub if_none : {A P Q : Type 0} → (P → Q) → (o : Option A) → IfNone o P → IfNone o Q
if_none f None is = f is
if_none f (Some a) is = tt

pub if_some : {A : Type 0} {P Q : A → Type 0} → ((a : A) → P a → Q a) → (o : Option A) → IfSome o P → IfSome o Q
if_some f None is = tt
if_some f (Some a) is = f a is

pub if_both : {A : Type 0} {P Q R : A → Type 0} → ((a : A) → P a → Q a → R a) → (o : Option A) → IfSome o P → IfSome o Q → IfSome o R
if_both f None first second = tt
if_both f (Some a) first second = f a first second

pub where_none : {A P : Type 0} (o : Option A) (b : Bool) → is_some o ≡ not b → b ≡ true → IfNone o P → P
where_none None b told is found = found
where_none (Some a) b told is found = cc

module _ (es : List Equation) (ss : List Sizing) (same : length ss ≡ length es) where
  abbrev cs : List Constraint
  cs = joined es ss

  solved : HasSolution es → HasSolution (equations_of cs)
  solved solution = subst HasSolution (sym (equations_joined es ss same)) solution

  -- of all that are loaded none has one too large, though each end that was open once counts one
  module _ (all : Loaded) (loaded : AreLoaded all.loader all.sides es (length es)) (solution : HasSolution es) (ends : ℕ → ℕ)
      (once : CountOnceOpen all.loader.arena.shapes all.loader.arena.classes ends) where
    abbrev shapes : List Shape
    shapes = all.loader.arena.shapes

    abbrev classes : List ℕ
    classes = all.loader.arena.classes

    abbrev arena : IsArena shapes classes
    arena = loaded.says.whole.arena

    ranked : (rank : ℕ → ℕ) × IsRanked shapes classes rank
    ranked = ranking all.loader es (says_all all.loader all.sides es loaded) solution

    abbrev c : ℕ → ℕ
    c = count_by shapes classes arena loaded.kind ranked.0 ranked.1 ends

    counted : AreCounted ends shapes classes loaded.kind c
    counted = counts_exist shapes classes arena loaded.kind ranked.0 ranked.1 ends

    of_kind : (k : Kind) (count : Count) (n : ℕ) → k ≡ OfTypes → IsCountOf k count n → count.as_type ≡ saturated n
    of_kind k count n is of = subst (λ k. IsCountOf k count n) is of

    pub surely : CountFew ends (Some Late) all ss → AllMakeFew (joined es ss)
    surely few =
        all_few all.loader loaded.kind all.sides c (λ n. (count_at classes few.0 n).as_type)
        (counts_cover shapes classes arena loaded.kind loaded.kinded.nodes ends c counted once) (types_some shapes classes arena loaded.kind loaded.kinded.nodes ends c counted)
        (λ n below is. of_kind (loaded.kind n) (count_at classes few.0 n) (c n) is (few.1 loaded.kind c loaded.kinded.nodes counted n below)) cs
        (subst (λ ss. AreAllWithin (Some Late) ss (map (λ n. (count_at classes few.0 n).as_type) all.sides)) (sym (sizings_joined es ss same)) few.2)
        (solved solution) (subst (λ es. (j : ℕ) → j ≤ length es → HadNodes (take j es) all.loader loaded.kind all.sides) (sym (equations_joined es ss same)) loaded.before)

    -- of the first of them none has one too large where it is none of theirs that is too large in all
    pub surely_first : (i : ℕ) → i ≤ length es → CountFew ends (Some Late) all (take i ss) → AllMakeFew (joined (take i es) (take i ss))
    surely_first i within few =
        let as_many : length (take i es) ≡ i = length-take-le i es within in
        let same_first : length (take i ss) ≡ length (take i es) = length-take-le i ss (omega arith) ∙ sym as_many in
        all_few all.loader loaded.kind all.sides c (λ n. (count_at classes few.0 n).as_type)
        (counts_cover shapes classes arena loaded.kind loaded.kinded.nodes ends c counted once) (types_some shapes classes arena loaded.kind loaded.kinded.nodes ends c counted)
        (λ n below is. of_kind (loaded.kind n) (count_at classes few.0 n) (c n) is (few.1 loaded.kind c loaded.kinded.nodes counted n below)) (joined (take i es) (take i ss))
        (subst (λ ss. AreAllWithin (Some Late) ss (map (λ n. (count_at classes few.0 n).as_type) all.sides)) (sym (sizings_joined (take i es) (take i ss) same_first)) few.2)
        (subst HasSolution (sym (equations_joined (take i es) (take i ss) same_first)) (solution_first es i solution))
        (subst (λ es. (j : ℕ) → j ≤ length es → HadNodes (take j es) all.loader loaded.kind all.sides) (sym (equations_joined (take i es) (take i ss) same_first))
        (λ j h. subst (λ es. HadNodes es all.loader loaded.kind all.sides) (sym (first_of_first es j i (omega arith))) (loaded.before j (omega arith))))

  pub all_are_few : (k : ℕ) → length es ≤ k → AllMakeFew (take k (joined es ss)) → AllMakeFew (joined es ss)
  all_are_few k end few = all_first MakeFew cs k (let l = joined_length es ss same in omega arith) few

  -- ---- one more is loaded

  module _ (k : ℕ) (below : k < length es) (solution : HasSolution es) (few : AllMakeFew (take k (joined es ss))) (d : Sizing) (all : Loaded)
      (loaded : AreLoaded all.loader all.sides es (k + 1)) where
    abbrev pub s : Sizing
    s = get_or ss k d

    end_is : end_of (take (k + 1) cs) ≡ Some s
    end_is = end_first es ss k d below same

    matters_as : (t : Sizing) → matters (end_of (take (k + 1) cs)) t ≡ matters (last_by (is_late s)) t
    matters_as t = ap (λ end. matters end t) end_is ∙ sym (by_late s t)

    below_all : k < length cs
    below_all = let l = joined_length es ss same in omega arith

    abbrev part : AreLoaded all.loader all.sides (take (k + 1) es) (length (take (k + 1) es))
    part = loaded_first all.loader all.sides es (k + 1) (omega arith) loaded

    pub one_more_few : CountFew (λ p. 0) (last_by (is_late s)) all (take (k + 1) ss) → AllMakeFew (take (k + 1) (joined es ss))
    one_more_few counted =
        let has : HasFew (last_by (is_late s)) (take (k + 1) es) (take (k + 1) ss) =
        has_few all.loader all.sides (take (k + 1) es) part (solution_first es (k + 1) solution) counted.0 counted.1 (last_by (is_late s)) (take (k + 1) ss) counted.2 in
        let here : HasFew (end_of (take (k + 1) cs)) (take (k + 1) es) (take (k + 1) ss) =
        (has.0, within_less (last_by (is_late s)) (end_of (take (k + 1) cs)) (λ t m. sym (matters_as t) ∙ m) (take (k + 1) ss) (map (count 0) has.0.types) has.1) in
        one_more MakeFew cs k below_all few
        (subst (λ es. HasFew (end_of (take (k + 1) cs)) es (sizings_of (take (k + 1) cs))) (sym (equations_first es ss (k + 1) same))
        (subst (λ ss. HasFew (end_of (take (k + 1) cs)) (take (k + 1) es) ss) (sym (sizings_first es ss (k + 1) same)) here))

    pub first_many : CountMany (λ p. 0) (last_by (is_late s)) all (take (k + 1) ss) → IsFirstMany (joined es ss) k
    first_many counted =
        let has : HasMany (last_by (is_late s)) (take (k + 1) es) (take (k + 1) ss) =
        has_many all.loader all.sides (take (k + 1) es) part (solution_first es (k + 1) solution) counted.0 counted.1 (last_by (is_late s)) (take (k + 1) ss) counted.2 in
        let here : HasMany (end_of (take (k + 1) cs)) (take (k + 1) es) (take (k + 1) ss) =
        (has.0, beyond_more (end_of (take (k + 1) cs)) (last_by (is_late s)) (λ t m. matters_as t ∙ m) (take (k + 1) ss) (map (count 0) has.0.types) has.1) in
        record {
          within = below_all;
          few = few;
          many =
              subst (λ es. HasMany (end_of (take (k + 1) cs)) es (sizings_of (take (k + 1) cs))) (sym (equations_first es ss (k + 1) same))
              (subst (λ ss. HasMany (end_of (take (k + 1) cs)) (take (k + 1) es) ss) (sym (sizings_first es ss (k + 1) same)) here);
        }

  -- ---- which are fine

  pub all_fine : HasSolution es → AllMakeFew (joined es ss) → AllFine (joined es ss)
  all_fine solution few = sides.all_fine cs (solved solution) few

  pub first_large : HasSolution es → (k : ℕ) → IsFirstMany (joined es ss) k → IsFirstLarge (joined es ss) k
  first_large solution k first = sides.first_large cs k (solved solution) first

  -- ---- what is first of the first is first of all

  pub large_first : (n k : ℕ) → n ≤ length es → IsFirstLarge (joined (take n es) (take n ss)) k → IsFirstLarge (joined es ss) k
  large_first n k within first =
      let first_n : IsFirstLarge (take n cs) k = subst (λ cs. IsFirstLarge cs k) (sym (joined_first es ss n)) first in
      let whole = joined_length es ss same in
      let l : length (take n cs) ≡ n = length-take-le n cs (omega arith) in
      let b = first_n.within in
      record {
        within = omega arith;
        fine = subst AllFine (first_of_first cs k n (omega arith)) first_n.fine;
        large = subst AreLarge (first_of_first cs (k + 1) n (omega arith)) first_n.large;
      }

  pub unmet_first : (k : ℕ) → IsFirstWithout es k → AllFine (joined (take k es) (take k ss)) → IsFirstUnmet (joined es ss) k
  unmet_first k first fine =
      let whole = joined_length es ss same in
      let b = first.within in
      record {
        within = omega arith;
        fine = subst AllFine (sym (joined_first es ss k)) fine;
        none = λ solution. first.none (subst HasSolution (equations_first es ss (k + 1) same) solution);
      }
