use Rattle.std.proofs.Common.{◌≡◌, ℕ, ◌+◌, ◌*◌, take, ◌≤◌}
use Rattle.std.specs.Prelude.{max}
use denote.Param.Weighed.{most}
use Rattle.lk_ast.specs.Layers.{chain}
use Rattle.lk_ast.specs.declared.expression.Case.{size-Case}
use Rattle.lk_ast.specs.declared.expression.ChangeExpr.{size-ChangeExpr}
use Rattle.lk_ast.specs.declared.expression.Expr.{size-Expr}
use Rattle.lk_ast.specs.declared.expression.LambdaExpr.{size-LambdaExpr}
use Rattle.lk_ast.specs.declared.expression.Node.{size-Node}
use Rattle.lk_ast.specs.declared.expression.PartExpr.{size-PartExpr}
use Rattle.lk_ast.proofs.tree_copies.+tree_copies.Given as goal

-- each part is less deep than what it stands in, and what takes several parts counts the deepest
abbrev level : ℕ → ℕ
level depth = depth * 4

abbrev pub invariant-copy_cases-loop-case : goal.invariant-copy_cases-loop-case
invariant-copy_cases-loop-case l = l.copies ≡ take l.case-index l.cases

abbrev pub invariant-copy_expr-loop-name : goal.invariant-copy_expr-loop-name
invariant-copy_expr-loop-name l = (size-Expr l.rest ≤ size-Expr l.initial.rest) × (chain l.statements l.rest ≡ l.initial.rest)

abbrev pub decreases-copy_expr-loop-name : goal.decreases-copy_expr-loop-name
decreases-copy_expr-loop-name l = size-Expr l.rest

abbrev pub invariant-copy_exprs-loop-e : goal.invariant-copy_exprs-loop-e
invariant-copy_exprs-loop-e l = l.copies ≡ take l.e-index l.exprs

abbrev pub invariant-copy_parts-loop-part : goal.invariant-copy_parts-loop-part
invariant-copy_parts-loop-part l = l.copies ≡ take l.part-index l.parts

abbrev pub decreases-copy_expr : goal.decreases-copy_expr
decreases-copy_expr l = level (size-Expr l.e.now)

abbrev pub decreases-copy_node : goal.decreases-copy_node
decreases-copy_node l = level (size-Node l.node.now)

abbrev pub decreases-copy_both : goal.decreases-copy_both
decreases-copy_both l = level (max (size-Expr l.a.now) (size-Expr l.b.now)) + 1

abbrev pub decreases-copy_branches : goal.decreases-copy_branches
decreases-copy_branches l = level (max (size-Expr l.c.now) (max (size-Expr l.d.now) (size-Expr l.e.now))) + 1

abbrev pub decreases-copy_call : goal.decreases-copy_call
decreases-copy_call l = level (most size-Expr l.args.now) + 2

abbrev pub decreases-copy_application : goal.decreases-copy_application
decreases-copy_application l = level (max (size-Expr l.f.now) (most size-Expr l.args.now)) + 2

abbrev pub decreases-copy_named : goal.decreases-copy_named
decreases-copy_named l = level (size-Expr l.e.now) + 1

abbrev pub decreases-copy_binding : goal.decreases-copy_binding
decreases-copy_binding l = level (max (size-Expr l.bound.now) (size-Expr l.rest.now)) + 1

abbrev pub decreases-copy_switch : goal.decreases-copy_switch
decreases-copy_switch l = level (max (goal.size-copy_switch l) (max (size-Expr l.e.now) (most size-Case l.cases.now))) + 2

abbrev pub decreases-copy_exprs : goal.decreases-copy_exprs
decreases-copy_exprs l = level (most size-Expr l.exprs.now) + 1

abbrev pub decreases-copy_parts : goal.decreases-copy_parts
decreases-copy_parts l = level (most size-PartExpr l.parts.now)

abbrev pub decreases-copy_lambda : goal.decreases-copy_lambda
decreases-copy_lambda l = level (size-LambdaExpr l.lambda.now)

abbrev pub decreases-copy_cases : goal.decreases-copy_cases
decreases-copy_cases l = level (most size-Case l.cases.now) + 1

abbrev pub decreases-copy_last : goal.decreases-copy_last
decreases-copy_last l = level (goal.size-copy_last l)

abbrev pub decreases-copy_change : goal.decreases-copy_change
decreases-copy_change l = level (size-ChangeExpr l.change.now)
