use Rattle.std.proofs.Common.{◌≡◌, ℕ, ◌+◌, ◌*◌, ◌++◌, map, flat_map, take}
use Rattle.std.specs.Vec.Iter.{into_iter_items}
use Rattle.lk_ast.specs.Children.{exprs_of}
use Rattle.lk_ast.specs.Tables.{rows_of}
use Rattle.lk_ast.specs.declared.expression.Expr.{size-Expr}
use Rattle.lk_bag.specs.Bag.{called, given, items}
use Rattle.lk_bag.specs.Forms.{all_given}
use Rattle.lk_locals.specs.Names.{bind}
use Rattle.lk_bag.proofs.walk.+walk.Given as goal

-- each part has less room than what it stands in
abbrev level : ℕ → ℕ
level room = room * 8

abbrev pub decreases-value : goal.decreases-value
decreases-value l = level l.room

abbrev pub decreases-form : goal.decreases-form
decreases-form l = level l.room + 7

abbrev pub decreases-choice : goal.decreases-choice
decreases-choice l = level l.room + 6

abbrev pub decreases-operation : goal.decreases-operation
decreases-operation l = level l.room + 5

abbrev pub decreases-call_on : goal.decreases-call_on
decreases-call_on l = level l.room + 4

abbrev pub decreases-variable : goal.decreases-variable
decreases-variable l = level l.room + 4

abbrev pub decreases-loop_over : goal.decreases-loop_over
decreases-loop_over l = level l.room + 4

abbrev pub decreases-holds : goal.decreases-holds
decreases-holds l = level l.room + 4

abbrev pub decreases-one_operand : goal.decreases-one_operand
decreases-one_operand l = level l.room + 4

abbrev pub decreases-two_operands : goal.decreases-two_operands
decreases-two_operands l = level l.room + 4

abbrev pub decreases-list_of : goal.decreases-list_of
decreases-list_of l = level l.room + 4

abbrev pub decreases-record_of : goal.decreases-record_of
decreases-record_of l = level l.room + 4

abbrev pub decreases-extension : goal.decreases-extension
decreases-extension l = level l.room + 4

abbrev pub decreases-values : goal.decreases-values
decreases-values l = level l.room + 1

abbrev pub decreases-part_values : goal.decreases-part_values
decreases-part_values l = level l.room + 1

abbrev pub decreases-for_each : goal.decreases-for_each
decreases-for_each l = level l.room + 1

abbrev pub decreases-call : goal.decreases-call
decreases-call l = level l.room + 1

abbrev pub invariant-value-loop-name : goal.invariant-value-loop-name
invariant-value-loop-name l = given (rows_of l.over.tables.now) (called l.over.index.now (rows_of l.over.tables.now) l.calls) l.rest l.inner ≡ given (rows_of l.over.tables.now) (called l.over.index.now (rows_of l.over.tables.now) l.calls) l.e l.names

abbrev pub decreases-value-loop-name : goal.decreases-value-loop-name
decreases-value-loop-name l = size-Expr l.rest

abbrev pub invariant-values-loop-e : goal.invariant-values-loop-e
invariant-values-loop-e l = l.found ≡ all_given (rows_of l.over.tables.now) (called l.over.index.now (rows_of l.over.tables.now) l.calls) (take l.e-index l.list) l.names

abbrev pub invariant-part_values-loop-part : goal.invariant-part_values-loop-part
invariant-part_values-loop-part l = l.found ≡ all_given (rows_of l.over.tables.now) (called l.over.index.now (rows_of l.over.tables.now) l.calls) (exprs_of (take l.part-index l.list)) l.names

abbrev pub invariant-for_each-loop-element : goal.invariant-for_each-loop-element
invariant-for_each-loop-element l =
    l.found ++ flat_map (λ v. items (given (rows_of l.over.tables.now) (called l.over.index.now (rows_of l.over.tables.now) l.calls) l.body (bind l.name.text v l.names))) (into_iter_items l.element-iterator)
    ≡ l.initial.found ++ flat_map (λ v. items (given (rows_of l.over.tables.now) (called l.over.index.now (rows_of l.over.tables.now) l.calls) l.body (bind l.name.text v l.names))) (into_iter_items l.initial.element-iterator)
