use Rattle.std.proofs.Common.{subst}
use Rattle.std.specs.Prelude.{IfNone, IfSome}
use Rattle.lk_unify.proofs.solvable.load_next.Goals as goal
use Rattle.lk_unify.specs.Solving.{AddsEquation, NeverMeets}

pub returns-in_default-clause-never : goal.returns-in_default-clause-never
returns-in_default-clause-never c unmet = subst (λ o. IfNone o (NeverMeets c.args.all.now.loader c.args.equation.now)) c.in_default.is c.in_ok-side.ensures.never

pub returns-clause-added : goal.returns-clause-added
returns-clause-added c met = (
  c.in-Some.side,
  subst (λ o. IfSome o (AddsEquation c.args.all.now.loader c.add_equation.new.loader c.args.equation.now)) c.in-Some.is c.in_ok-side.ensures.added,
  c.in_ok-push.ensures.ok,
)
