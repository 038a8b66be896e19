use Rattle.std.proofs.Common.{◌≡◌, ℕ, ◌+◌, ◌*◌, ◌≤◌, ◌++◌, drop, map}
use Rattle.std.specs.Prelude.{max}
use denote.Param.Weighed.{most}
use Rattle.lk_ast.specs.declared.expression.Case.{size-Case}
use Rattle.lk_ast.specs.declared.expression.ChangeExpr.{size-ChangeExpr}
use Rattle.lk_ast.specs.declared.expression.Expr.{size-Expr}
use Rattle.lk_ast.specs.declared.expression.LambdaExpr.{size-LambdaExpr}
use Rattle.lk_ast.specs.declared.expression.Node.{size-Node}
use Rattle.lk_ast.specs.declared.expression.PartExpr.{size-PartExpr}
use Rattle.lk_outline.specs.Outline.{outline, outline_case, outline_part}
use Rattle.lk_outline.specs.Shown.{shown}
use Rattle.lk_outline.specs.Walked.{begin_at, put, put_all, put_bound, seen}
use Rattle.lk_outline.proofs.+outlines.Given as goal

-- each part is less deep than what it stands in, and what takes several parts counts the deepest
abbrev level : ℕ → ℕ
level depth = depth * 8

abbrev pub invariant-walk::expr-loop-name : goal.invariant-walk::expr-loop-name
invariant-walk::expr-loop-name l =
    (size-Expr l.rest ≤ size-Expr l.initial.rest)
    × (put (outline l.rest) (seen l.round l.scope) (shown l.sites) ≡ put (outline l.initial.rest) (seen l.round l.initial.scope) (shown l.initial.sites))
    × (drop l.names l.scope ≡ l.initial.scope)

abbrev pub decreases-walk::expr-loop-name : goal.decreases-walk::expr-loop-name
decreases-walk::expr-loop-name l = size-Expr l.rest

abbrev pub invariant-walk::exprs-loop-e : goal.invariant-walk::exprs-loop-e
invariant-walk::exprs-loop-e l =
    (put_all (map outline (drop l.e-index l.list)) (seen l.round l.initial.scope) (shown l.sites) ≡ put_all (map outline l.list) (seen l.round l.initial.scope) (shown l.initial.sites))
    × (l.scope ≡ l.initial.scope)

abbrev pub invariant-form::arguments-loop-e : goal.invariant-form::arguments-loop-e
invariant-form::arguments-loop-e l =
    (put_all (map outline (drop l.e-index l.list)) (seen l.round l.initial.scope) (shown l.sites) ≡ put_all (map outline l.list) (seen l.round l.initial.scope) (shown l.initial.sites))
    × (l.numbers ++ begin_at (map outline (drop l.e-index l.list)) (seen l.round l.initial.scope) (shown l.sites) ≡ l.initial.numbers ++ begin_at (map outline l.list) (seen l.round l.initial.scope) (shown l.initial.sites))
    × (l.scope ≡ l.initial.scope)

abbrev pub invariant-walk::parts-loop-one : goal.invariant-walk::parts-loop-one
invariant-walk::parts-loop-one l =
    (put_all (map outline_part (drop l.one-index l.list)) (seen l.round l.initial.scope) (shown l.sites) ≡ put_all (map outline_part l.list) (seen l.round l.initial.scope) (shown l.initial.sites))
    × (l.scope ≡ l.initial.scope)

abbrev pub invariant-form::cases-loop-one : goal.invariant-form::cases-loop-one
invariant-form::cases-loop-one l =
    (put_bound (map outline_case (drop l.one-index l.list)) l.binder (seen l.round l.initial.scope) (shown l.sites) ≡ put_bound (map outline_case l.list) l.binder (seen l.round l.initial.scope) (shown l.initial.sites))
    × (l.scope ≡ l.initial.scope)

abbrev pub decreases-walk::expr : goal.decreases-walk::expr
decreases-walk::expr l = level (size-Expr l.e.now)

abbrev pub decreases-walk::node : goal.decreases-walk::node
decreases-walk::node l = level (size-Node l.node.now) + 7

abbrev pub decreases-walk::one : goal.decreases-walk::one
decreases-walk::one l = level (size-Expr l.e.now) + 1

abbrev pub decreases-walk::two : goal.decreases-walk::two
decreases-walk::two l = level (max (size-Expr l.a.now) (size-Expr l.b.now)) + 1

abbrev pub decreases-walk::equal : goal.decreases-walk::equal
decreases-walk::equal l = level (max (size-Expr l.a.now) (size-Expr l.b.now)) + 1

abbrev pub decreases-walk::ordered : goal.decreases-walk::ordered
decreases-walk::ordered l = level (max (size-Expr l.a.now) (size-Expr l.b.now)) + 1

abbrev pub decreases-walk::three : goal.decreases-walk::three
decreases-walk::three l = level (max (size-Expr l.c.now) (max (size-Expr l.d.now) (size-Expr l.e.now))) + 1

abbrev pub decreases-walk::exprs : goal.decreases-walk::exprs
decreases-walk::exprs l = level (most size-Expr l.list.now) + 1

abbrev pub decreases-walk::list_of : goal.decreases-walk::list_of
decreases-walk::list_of l = level (most size-Expr l.items.now) + 2

abbrev pub decreases-walk::apply : goal.decreases-walk::apply
decreases-walk::apply l = level (max (size-Expr l.f.now) (most size-Expr l.args.now)) + 2

abbrev pub decreases-walk::part : goal.decreases-walk::part
decreases-walk::part l = level (size-PartExpr l.part.now)

abbrev pub decreases-walk::parts : goal.decreases-walk::parts
decreases-walk::parts l = level (most size-PartExpr l.list.now) + 1

abbrev pub decreases-walk::record_of : goal.decreases-walk::record_of
decreases-walk::record_of l = level (most size-PartExpr l.fields.now) + 2

abbrev pub decreases-walk::extend : goal.decreases-walk::extend
decreases-walk::extend l = level (max (most size-PartExpr l.fields.now) (size-Expr l.e.now)) + 2

abbrev pub decreases-walk::under : goal.decreases-walk::under
decreases-walk::under l = level (size-Expr l.e.now) + 1

abbrev pub decreases-walk::variable : goal.decreases-walk::variable
decreases-walk::variable l = level (max (size-Expr l.e.now) (size-Expr l.body.now)) + 2

abbrev pub decreases-form::arguments : goal.decreases-form::arguments
decreases-form::arguments l = level (most size-Expr l.list.now) + 1

abbrev pub decreases-form::call : goal.decreases-form::call
decreases-form::call l = level (most size-Expr l.args.now) + 2

abbrev pub decreases-form::lambda : goal.decreases-form::lambda
decreases-form::lambda l = level (size-LambdaExpr l.e.now)

abbrev pub decreases-form::case : goal.decreases-form::case
decreases-form::case l = level (size-Case l.case.now)

abbrev pub decreases-form::cases : goal.decreases-form::cases
decreases-form::cases l = level (most size-Case l.list.now) + 1

abbrev pub decreases-form::some_case : goal.decreases-form::some_case
decreases-form::some_case l = level (goal.size-form::some_case l)

abbrev pub decreases-form::switch : goal.decreases-form::switch
decreases-form::switch l = level (max (goal.size-form::switch l) (max (size-Expr l.e.now) (most size-Case l.list.now))) + 2

abbrev pub decreases-form::query : goal.decreases-form::query
decreases-form::query l = level (size-Expr l.e.now) + 1

abbrev pub decreases-form::change : goal.decreases-form::change
decreases-form::change l = level (size-ChangeExpr l.rows.now) + 1

abbrev pub decreases-form::change_of : goal.decreases-form::change_of
decreases-form::change_of l = level (size-ChangeExpr l.rows.now)
