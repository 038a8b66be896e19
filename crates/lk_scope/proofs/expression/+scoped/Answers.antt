use Rattle.std.proofs.Common.{arith, ◌∙◌, ap}
use Rattle.lk_scope.specs.Leaving.{without}
use Rattle.lk_scope.proofs.Chains.{statement_step}
use Rattle.lk_scope.proofs.expression.+scoped.Goals as goal

pub expr-loop-name-preserved : goal.expr-loop-name-preserved
expr-loop-name-preserved t c = (
  omega (arith, c.in-Some.ensures.rest, c.loop-name.invariant.0),
  statement_step _ c.loop-name.statements _ _ _ _ _ _ _ _ c.loop-name.names _ _ c.in_ok-push.ensures.ok c.in_ok-copy_some.ensures c.in_ok-statement.ensures.scoped c.in_ok-enter_some.ensures.entered c.in_ok-statement.ensures.left c.in-Some.ensures.before c.loop-name.invariant.1,
  c.in_ok-enter_some.ensures.noted ∙ ap (without c.loop-name.noted) c.in_ok-statement.ensures.left ∙ c.loop-name.invariant.2,
)
