use Rattle.std.proofs.Common.{length, subst, arith}
use Rattle.std.specs.Prelude.{ℕ}
use Rattle.lk_unify.proofs.Decided.{all_unsolved, never_fitting, solvable_by}
use Rattle.lk_unify.proofs.ordered.order_loaded.Goals as goal

pub returns-then-not-branch : goal.returns-then-not-branch
returns-then-not-branch c =
    (omega arith, all_unsolved c.args.equations.now (never_fitting c.args.all.loader c.args.all.sides c.args.equations.now c.requires (c.in_ok-is_clean.ensures.never c.if-not-branch.true)))

pub returns-in_default : goal.returns-in_default
returns-in_default c = (
  omega arith,
  all_unsolved c.args.equations.now
      (never_fitting c.args.all.loader c.args.all.sides c.args.equations.now c.requires (rw (c.as_slice.ensures, c.in_default.is) at c.in_ok-order.ensures.never)),
)

pub returns : goal.returns
returns c = record {
  solution =
      solvable_by c.args.all.loader c.args.all.sides c.args.equations.now c.requires (c.in_ok-is_clean.ensures.clean c.if-not-branch.false)
      (rw (c.as_slice.ensures, c.in-Some.is) at c.in_ok-order.ensures.ranked);
  loaded = c.requires;
  order = rw (c.as_slice.ensures, c.in-Some.is) at c.in_ok-order.ensures.order;
}
