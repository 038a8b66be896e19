use Rattle.std.proofs.Common.{◌≤◌}
use Rattle.lk_ast.specs.declared.expression.Expr.{size-Expr}
use Rattle.lk_ast.proofs.expression.+tree.Given as goal

-- what is left of the chain is no larger than the whole
abbrev pub invariant-Expr::drop-loop-rest : goal.invariant-Expr::drop-loop-rest
invariant-Expr::drop-loop-rest l = size-Expr l.self ≤ size-Expr l.initial.self
