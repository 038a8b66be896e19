use Rattle.std.proofs.Common.{◌≡◌, ℕ, ◌+◌, ◌*◌, ◌≤◌, map, drop}
use Rattle.std.specs.Prelude.{max}
use denote.Param.Weighed.{most}
use Rattle.lk_ast.specs.declared.expression.Case.{size-Case}
use Rattle.lk_ast.specs.declared.expression.ChangeExpr.{size-ChangeExpr}
use Rattle.lk_ast.specs.declared.expression.Expr.{size-Expr}
use Rattle.lk_ast.specs.declared.expression.LambdaExpr.{size-LambdaExpr}
use Rattle.lk_ast.specs.declared.expression.Node.{size-Node}
use Rattle.lk_ast.specs.declared.expression.PartExpr.{size-PartExpr}
use Rattle.lk_typing.specs.Typing.{expr_of}
use Rattle.lk_walk.specs.Blocks.{blocks_left}
use Rattle.lk_walk.specs.Went.{type_at, went, went_all, types_all, walk_in, case_in, cases_went, cases_fields, cases_types}
use Rattle.lk_walk.proofs.expression.+walks.Given as goal

-- each part is less deep than what it stands in, and what takes several parts counts the deepest
abbrev level : ℕ → ℕ
level depth = depth * 8

abbrev pub invariant-exprs-loop-e : goal.invariant-exprs-loop-e
invariant-exprs-loop-e l =
    (went_all (map (walk_in l.context.globals.now) (drop l.e-index l.list)) l.context.effects.now l.walker ≡ went_all (map (walk_in l.context.globals.now) l.list) l.context.effects.now l.initial.walker)
    × (types_all (map (walk_in l.context.globals.now) (drop l.e-index l.list)) l.context.effects.now l.walker l.types ≡ types_all (map (walk_in l.context.globals.now) l.list) l.context.effects.now l.initial.walker l.initial.types)

abbrev pub invariant-fields_in-loop-field : goal.invariant-fields_in-loop-field
invariant-fields_in-loop-field l =
    (went_all (map (walk_in l.context.globals.now) (map expr_of (drop l.field-index l.list))) l.context.effects.now l.walker ≡ went_all (map (walk_in l.context.globals.now) (map expr_of l.list)) l.context.effects.now l.initial.walker)
    × (types_all (map (walk_in l.context.globals.now) (map expr_of (drop l.field-index l.list))) l.context.effects.now l.walker l.types ≡ types_all (map (walk_in l.context.globals.now) (map expr_of l.list)) l.context.effects.now l.initial.walker l.initial.types)

abbrev pub invariant-cases-loop-one : goal.invariant-cases-loop-one
invariant-cases-loop-one l =
    (cases_went (map (case_in l.context.globals.now) (drop l.one-index l.list)) l.context.effects.now l.walker ≡ cases_went (map (case_in l.context.globals.now) l.list) l.context.effects.now l.initial.walker)
    × (cases_fields (map (case_in l.context.globals.now) (drop l.one-index l.list)) l.context.effects.now l.walker l.tags ≡ cases_fields (map (case_in l.context.globals.now) l.list) l.context.effects.now l.initial.walker l.initial.tags)
    × (cases_types (map (case_in l.context.globals.now) (drop l.one-index l.list)) l.context.effects.now l.walker l.types ≡ cases_types (map (case_in l.context.globals.now) l.list) l.context.effects.now l.initial.walker l.initial.types)

abbrev pub invariant-expr-loop-name : goal.invariant-expr-loop-name
invariant-expr-loop-name l =
    (size-Expr l.rest ≤ size-Expr l.initial.rest)
    × (blocks_left l.blocks (type_at (walk_in l.context.globals.now l.rest) l.context.effects.now l.walker) (went (walk_in l.context.globals.now l.rest) l.context.effects.now l.walker)
    ≡ (went (walk_in l.context.globals.now l.initial.rest) l.context.effects.now l.initial.walker, type_at (walk_in l.context.globals.now l.initial.rest) l.context.effects.now l.initial.walker))

abbrev pub decreases-expr-loop-name : goal.decreases-expr-loop-name
decreases-expr-loop-name l = size-Expr l.rest

abbrev pub decreases-expr : goal.decreases-expr
decreases-expr l = level (size-Expr l.e.now) + 2

abbrev pub decreases-node : goal.decreases-node
decreases-node l = level (size-Expr l.e.now) + 1

abbrev pub decreases-plain : goal.decreases-plain
decreases-plain l = level (size-Expr l.e.now)

abbrev pub decreases-parts : goal.decreases-parts
decreases-parts l = level (size-Node l.node.now)

abbrev pub decreases-part : goal.decreases-part
decreases-part l = level (size-Expr l.e.now) + 3

abbrev pub decreases-under : goal.decreases-under
decreases-under l = level (size-Expr l.e.now) + 3

abbrev pub decreases-query : goal.decreases-query
decreases-query l = level (size-Expr l.body.now) + 4

abbrev pub decreases-exprs : goal.decreases-exprs
decreases-exprs l = level (most size-Expr l.list.now) + 4

abbrev pub decreases-fields_in : goal.decreases-fields_in
decreases-fields_in l = level (most size-PartExpr l.list.now)

abbrev pub decreases-lambda : goal.decreases-lambda
decreases-lambda l = level (size-LambdaExpr l.e.now)

abbrev pub decreases-case : goal.decreases-case
decreases-case l = level (size-Case l.case.now)

abbrev pub decreases-cases : goal.decreases-cases
decreases-cases l = level (most size-Case l.list.now) + 1

abbrev pub decreases-last_case : goal.decreases-last_case
decreases-last_case l = level (goal.size-last_case l)

abbrev pub decreases-change : goal.decreases-change
decreases-change l = level (size-ChangeExpr l.rows.now)

abbrev pub decreases-variable : goal.decreases-variable
decreases-variable l = level (max (size-Expr l.first.now) (size-Expr l.rest.now)) + 4

abbrev pub decreases-for_list : goal.decreases-for_list
decreases-for_list l = level (max (size-Expr l.list.now) (size-Expr l.body.now)) + 4

abbrev pub decreases-for_table : goal.decreases-for_table
decreases-for_table l = level (max (size-Expr l.table.now) (size-Expr l.body.now)) + 4

abbrev pub decreases-switch : goal.decreases-switch
decreases-switch l = level (max (goal.size-switch l) (max (size-Expr l.value.now) (most size-Case l.list.now))) + 4
