use Rattle.std.proofs.Common.{arith}
use Rattle.lk_ast.proofs.Chains.{copied_step}
use Rattle.lk_ast.proofs.tree_copies.+tree_copies.Goals as goal

pub copy_expr-loop-name-preserved : goal.copy_expr-loop-name-preserved
copy_expr-loop-name-preserved t c = (
  omega (arith, c.in-Some.ensures.rest, c.loop-name.invariant.0),
  copied_step _ c.loop-name.statements _ _ _ _ _ _ _ _ c.in_ok-push.ensures.ok c.in_ok-copy_some.ensures c.in_ok-copy_expr.ensures c.in-Some.ensures.before c.loop-name.invariant.1,
)
