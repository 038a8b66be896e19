-- Whether equations that are nodes have a solution.
use Rattle.std.proofs.Common.{◌≡◌, ℕ, zero, suc, ◌+◌, ◌-◌, ◌<◌, ◌≤◌, List, [], length, take, subst, arith}
use Rattle.std.proofs.lemmas.List.{take_all}
use Rattle.lk_types.specs.Rows.{no_fields, no_effects}
use Rattle.lk_types.specs.Solutions.{HasSolution}
use Rattle.lk_types.specs.declared.equation.Equation.{Equation}
use Rattle.lk_types.specs.declared.ground.Ground.TheVariants as known
use Rattle.lk_unify.proofs.Grounded.{open_solves}
use Rattle.lk_unify.proofs.Solved.{has_solution}
use Rattle.lk_arena.specs.Openings.{as_opening}
use Rattle.lk_arena.specs.Order.{IsRanked}
use Rattle.lk_arena.specs.Shapes.{IsClean, NeverFits}
use Rattle.lk_unify.specs.Solving.{Says, AreLoaded, IsFirstWithout}
use Rattle.lk_unify.specs.declared.loader.Loader.{Loader}

module _ (l : Loader) (sides : List ℕ) (es : List Equation) (loaded : AreLoaded l sides es (length es)) where
  pub says_all : Says l es
  says_all = subst (Says l) (take_all (length es) es (omega arith)) loaded.says

  -- no row has a label twice and no type is a part of itself
  pub solvable_by : IsClean l.arena.shapes l.arena.classes → (rank : ℕ → ℕ) × IsRanked l.arena.shapes l.arena.classes rank → HasSolution es
  solvable_by clean ranked = has_solution l es loaded.kind ranked.0 says_all loaded.kinded ranked.1 clean

  -- no values fit
  pub never_fitting : NeverFits l.arena.shapes l.arena.classes → HasSolution es → ⊥
  never_fitting never solution =
      let v = says_all.forth (as_opening solution.0) (open_solves solution.0 es solution.1) in
      never v.0 v.1

-- ---- halving

pub any_solution : HasSolution []
any_solution = (record { plain = λ n. known.Int; rows = λ n. no_fields; effects = λ n. no_effects }, tt)

pub none_solved : (es : List Equation) → HasSolution (take 0 es)
none_solved es = any_solution

-- equations without a solution are one at least
pub some_unsolved : (es : List Equation) (n : ℕ) → (HasSolution (take n es) → ⊥) → 0 < n
some_unsolved es zero never = absurd (never any_solution)
some_unsolved es (suc n) never = omega arith

pub all_unsolved : (es : List Equation) → (HasSolution es → ⊥) → HasSolution (take (length es) es) → ⊥
all_unsolved es never solution = never (subst HasSolution (take_all (length es) es (omega arith)) solution)

-- the first equations up to one have a solution, and with one more there is none
pub first_by : (es : List Equation) (low high : ℕ) → low < high → high - low ≤ 1 → high ≤ length es → HasSolution (take low es) → (HasSolution (take high es) → ⊥) → IsFirstWithout es low
first_by es low high less near within solvable never = record {
  within = omega arith;
  before = solvable;
  none = λ solution. never (subst (λ k. HasSolution (take k es)) (let same : low + 1 ≡ high = omega arith in same) solution);
}
