use Rattle.std.proofs.Common.{◌≡◌, ℕ, ◌+◌, ◌*◌, ◌++◌, ◌≤◌, map, take}
use Rattle.std.specs.Prelude.{flat_map, max}
use denote.Param.Weighed.{most}
use Rattle.lk_ast.specs.declared.expression.Case.{size-Case}
use Rattle.lk_ast.specs.declared.expression.ChangeExpr.{size-ChangeExpr}
use Rattle.lk_ast.specs.declared.expression.Expr.{size-Expr}
use Rattle.lk_ast.specs.declared.expression.LambdaExpr.{size-LambdaExpr}
use Rattle.lk_ast.specs.declared.expression.LastCase.{size-LastCase}
use Rattle.lk_ast.specs.declared.expression.Node.{size-Node}
use Rattle.lk_ast.specs.declared.expression.PartExpr.{size-PartExpr}
use Rattle.lk_print.specs.Printed.{form_of, print_case, print_part}
use Rattle.lk_print.specs.Written.{after_comma, spaced}
use Rattle.lk_print.proofs.Appends.{front}
use Rattle.lk_print.proofs.+printed.Given as goal

-- each part is less deep than what it stands in, and what takes several parts counts the deepest
abbrev level : ℕ → ℕ
level depth = depth * 8

abbrev pub invariant-expression::write_inside-loop-name : goal.invariant-expression::write_inside-loop-name
invariant-expression::write_inside-loop-name l = (size-Expr l.rest ≤ size-Expr l.initial.rest) × (l.line ++ flat_map spaced (form_of l.rest).inside ≡ l.initial.line ++ flat_map spaced (form_of l.initial.rest).inside)

abbrev pub decreases-expression::write_inside-loop-name : goal.decreases-expression::write_inside-loop-name
decreases-expression::write_inside-loop-name l = size-Expr l.rest

abbrev pub invariant-expression::write_exprs-loop-e : goal.invariant-expression::write_exprs-loop-e
invariant-expression::write_exprs-loop-e l = l.line ≡ (l.fn.line ++ flat_map spaced (front (map (λ e. (form_of e).alone) l.fn.exprs))) ++ flat_map (λ e. after_comma (form_of e).alone) (take l.e-index l.rest)

abbrev pub invariant-expression::write_parts-loop-part : goal.invariant-expression::write_parts-loop-part
invariant-expression::write_parts-loop-part l = l.line ≡ (l.fn.line ++ flat_map spaced (front (map print_part l.fn.parts))) ++ flat_map (λ part. after_comma (print_part part)) (take l.part-index l.rest)

abbrev pub invariant-form::write_cases-loop-case : goal.invariant-form::write_cases-loop-case
invariant-form::write_cases-loop-case l = l.line ≡ l.initial.line ++ flat_map (λ case. flat_map spaced (print_case case)) (take l.case-index l.cases)

abbrev pub decreases-expression::write_inside : goal.decreases-expression::write_inside
decreases-expression::write_inside l = level (size-Expr l.e.now)

abbrev pub decreases-expression::write_braces : goal.decreases-expression::write_braces
decreases-expression::write_braces l = level (size-Expr l.e.now) + 1

abbrev pub decreases-expression::write_alone : goal.decreases-expression::write_alone
decreases-expression::write_alone l = level (size-Expr l.e.now) + 2

abbrev pub decreases-expression::write_part : goal.decreases-expression::write_part
decreases-expression::write_part l = level (size-Expr l.e.now) + 2

abbrev pub decreases-expression::write_round : goal.decreases-expression::write_round
decreases-expression::write_round l = level (size-Expr l.e.now) + 3

abbrev pub decreases-expression::write_exprs : goal.decreases-expression::write_exprs
decreases-expression::write_exprs l = level (most size-Expr l.exprs.now) + 3

abbrev pub decreases-expression::write_args : goal.decreases-expression::write_args
decreases-expression::write_args l = level (most size-Expr l.exprs.now) + 4

abbrev pub decreases-expression::write_set : goal.decreases-expression::write_set
decreases-expression::write_set l = level (size-PartExpr l.part.now)

abbrev pub decreases-expression::write_parts : goal.decreases-expression::write_parts
decreases-expression::write_parts l = level (most size-PartExpr l.parts.now) + 1

abbrev pub decreases-expression::write_record : goal.decreases-expression::write_record
decreases-expression::write_record l = level (most size-PartExpr l.parts.now) + 2

abbrev pub decreases-expression::write_node : goal.decreases-expression::write_node
decreases-expression::write_node l = level (size-Node l.node.now) + 7

abbrev pub decreases-expression::write_call : goal.decreases-expression::write_call
decreases-expression::write_call l = level (most size-Expr l.args.now) + 5

abbrev pub decreases-expression::write_apply : goal.decreases-expression::write_apply
decreases-expression::write_apply l = level (max (size-Expr l.f.now) (most size-Expr l.args.now)) + 5

abbrev pub decreases-expression::write_var : goal.decreases-expression::write_var
decreases-expression::write_var l = level (max (size-Expr l.bound.now) (size-Expr l.rest.now)) + 5

abbrev pub decreases-expression::write_seq : goal.decreases-expression::write_seq
decreases-expression::write_seq l = level (max (size-Expr l.statement.now) (size-Expr l.rest.now)) + 5

abbrev pub decreases-expression::write_infix : goal.decreases-expression::write_infix
decreases-expression::write_infix l = level (max (size-Expr l.a.now) (size-Expr l.b.now)) + 5

abbrev pub decreases-expression::write_prefix : goal.decreases-expression::write_prefix
decreases-expression::write_prefix l = level (size-Expr l.e.now) + 5

abbrev pub decreases-expression::write_minus : goal.decreases-expression::write_minus
decreases-expression::write_minus l = level (size-Expr l.e.now) + 5

abbrev pub decreases-expression::write_extend : goal.decreases-expression::write_extend
decreases-expression::write_extend l = level (max (most size-PartExpr l.parts.now) (size-Expr l.e.now)) + 5

abbrev pub decreases-expression::write_list : goal.decreases-expression::write_list
decreases-expression::write_list l = level (most size-Expr l.items.now) + 5

abbrev pub decreases-expression::write_project : goal.decreases-expression::write_project
decreases-expression::write_project l = level (size-Expr l.e.now) + 5

abbrev pub decreases-expression::write_tagged : goal.decreases-expression::write_tagged
decreases-expression::write_tagged l = level (size-Expr l.e.now) + 5

abbrev pub decreases-form::write_fun : goal.decreases-form::write_fun
decreases-form::write_fun l = level (size-LambdaExpr l.lambda.now) + 1

abbrev pub decreases-form::write_if : goal.decreases-form::write_if
decreases-form::write_if l = level (max (size-Expr l.c.now) (max (size-Expr l.d.now) (size-Expr l.e.now))) + 5

abbrev pub decreases-form::write_switch : goal.decreases-form::write_switch
decreases-form::write_switch l = level (max (size-Expr l.e.now) (most size-Case l.cases.now)) + 5

abbrev pub decreases-form::write_open_switch : goal.decreases-form::write_open_switch
decreases-form::write_open_switch l = level (max (size-Expr l.e.now) (max (most size-Case l.cases.now) (size-LastCase l.last.now))) + 5

abbrev pub decreases-form::write_list_loop : goal.decreases-form::write_list_loop
decreases-form::write_list_loop l = level (max (size-Expr l.e.now) (size-Expr l.body.now)) + 5

abbrev pub decreases-form::write_table_loop : goal.decreases-form::write_table_loop
decreases-form::write_table_loop l = level (max (size-Expr l.rows.now) (size-Expr l.body.now)) + 5

abbrev pub decreases-form::write_where : goal.decreases-form::write_where
decreases-form::write_where l = level (max (size-Expr l.c.now) (size-Expr l.e.now)) + 5

abbrev pub decreases-form::write_query : goal.decreases-form::write_query
decreases-form::write_query l = level (size-Expr l.e.now) + 5

abbrev pub decreases-form::write_insert : goal.decreases-form::write_insert
decreases-form::write_insert l = level (size-Expr l.e.now) + 5

abbrev pub decreases-form::write_update : goal.decreases-form::write_update
decreases-form::write_update l = level (size-ChangeExpr l.change.now) + 1

abbrev pub decreases-form::write_delete : goal.decreases-form::write_delete
decreases-form::write_delete l = level (size-ChangeExpr l.change.now) + 1

abbrev pub decreases-form::write_lambda : goal.decreases-form::write_lambda
decreases-form::write_lambda l = level (size-LambdaExpr l.lambda.now)

abbrev pub decreases-form::write_rows : goal.decreases-form::write_rows
decreases-form::write_rows l = level (size-ChangeExpr l.change.now)

abbrev pub decreases-form::write_sets : goal.decreases-form::write_sets
decreases-form::write_sets l = level (size-ChangeExpr l.change.now)

abbrev pub decreases-form::write_cases : goal.decreases-form::write_cases
decreases-form::write_cases l = level (most size-Case l.cases.now) + 1

abbrev pub decreases-form::write_case : goal.decreases-form::write_case
decreases-form::write_case l = level (size-Case l.case.now)

abbrev pub decreases-form::write_last : goal.decreases-form::write_last
decreases-form::write_last l = level (size-LastCase l.last.now)
