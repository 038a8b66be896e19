use Rattle.std.proofs.Common.{◌-◌, sym, subst, arith}
use Rattle.lk_unify.proofs.Firsts.{solution_first}
use Rattle.lk_unify.proofs.Joined.{joined_first}
use Rattle.lk_unify.proofs.side_sizes.surely_few.Goals as goal
use Rattle.lk_unify.specs.SideSizes.{AllMakeFew}

pub halving-init : goal.halving-init
halving-init c = record { ordered = c.requires.bound; within = omega arith; few = c.requires.few; step = omega arith }

pub are_surely_few-requires-clause-solution : goal.are_surely_few-requires-clause-solution
are_surely_few-requires-clause-solution c = solution_first c.args.equations.now c.between-middle.result c.requires.solution

pub halving-preserved-then-branch : goal.halving-preserved-then-branch
halving-preserved-then-branch c =
    let above = c.between-middle.ensures.above in
    let below = c.between-middle.ensures.below in
    record {
      ordered = omega arith;
      within = c.halving.invariant.within;
      few =
          subst AllMakeFew (sym (joined_first c.args.equations.now c.args.sizings.now c.between-middle.result))
          (c.in_ok-are_surely_few.ensures c.if-branch.true);
      step = omega arith;
    }
