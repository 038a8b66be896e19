use Rattle.std.proofs.Common.{◌≡◌, ℕ, ◌+◌, ◌*◌, ◌-◌, ◌^◌, []}
use Rattle.lk_read.specs.Reader.{many}
use Rattle.lk_rows.specs.Reading.{comma}
use Rattle.lk_grammar.specs.Reading.{operator_next, operator_turn, operand_over, args_turn, postfix_next, postfix_turn, parts_turn, case_next, cases_turn, statements_with, expr_at}
use Rattle.lk_parts.specs.declared.operators.Level.{Level}
use Rattle.lk_parts.specs.declared.operators.Level.TheVariants as level-of
use Rattle.lk_grammar.proofs.+expressions.Given as goal

-- A reader of what stands in an expression has less room than the expression, and stands above those that it calls.
-- Each level of nesting is worth more than any number of turns.
abbrev level : ℕ → ℕ
level room = room * 2 ^ 66

-- how high a reader of the operands of a level stands
abbrev above : Level → ℕ → ℕ
above level-of.Or room = 3 * room + 27
above level-of.And room = 3 * room + 23
above level-of.Comparison room = 3 * room + 20
above level-of.Join room = room + 18
above level-of.Sum room = room + 14
above level-of.Product room = room + 10

abbrev pub decreases-levels::read_expr : goal.decreases-levels::read_expr
decreases-levels::read_expr l = level l.room

abbrev pub decreases-levels::read_operand : goal.decreases-levels::read_operand
decreases-levels::read_operand l = level l.room + above l.level l.room

abbrev pub decreases-levels::next_operand : goal.decreases-levels::next_operand
decreases-levels::next_operand l = level l.room + above l.level l.room + 1

abbrev pub decreases-levels::more_operands : goal.decreases-levels::more_operands
decreases-levels::more_operands l = level l.room + above l.level l.room + 2

abbrev pub decreases-levels::read_left : goal.decreases-levels::read_left
decreases-levels::read_left l = level l.room + above l.level l.room + 3

abbrev pub decreases-levels::next_comparison : goal.decreases-levels::next_comparison
decreases-levels::next_comparison l = level l.room + 3 * l.room + 21

abbrev pub decreases-levels::read_comparison : goal.decreases-levels::read_comparison
decreases-levels::read_comparison l = level l.room + 3 * l.room + 22

abbrev pub decreases-levels::next_join : goal.decreases-levels::next_join
decreases-levels::next_join l = level l.room + l.room + 20 + 2 * l.turns

abbrev pub decreases-levels::read_join : goal.decreases-levels::read_join
decreases-levels::read_join l = level l.room + l.room + 19 + 2 * l.turns

abbrev pub decreases-levels::read_unary : goal.decreases-levels::read_unary
decreases-levels::read_unary l = level l.room + 9 + l.turns

abbrev pub decreases-calls::next_arg : goal.decreases-calls::next_arg
decreases-calls::next_arg l = level l.room + 1

abbrev pub decreases-calls::more_args : goal.decreases-calls::more_args
decreases-calls::more_args l = level l.room + 2

abbrev pub decreases-calls::some_args : goal.decreases-calls::some_args
decreases-calls::some_args l = level l.room + 3

abbrev pub decreases-calls::read_args : goal.decreases-calls::read_args
decreases-calls::read_args l = level l.room + 4

abbrev pub decreases-calls::read_call : goal.decreases-calls::read_call
decreases-calls::read_call l = level l.room + 5

abbrev pub decreases-calls::next_postfix : goal.decreases-calls::next_postfix
decreases-calls::next_postfix l = level l.room + 6

abbrev pub decreases-calls::more_postfix : goal.decreases-calls::more_postfix
decreases-calls::more_postfix l = level l.room + 7

abbrev pub decreases-calls::read_postfix : goal.decreases-calls::read_postfix
decreases-calls::read_postfix l = level l.room + 8

abbrev pub decreases-primaries::read_tag_body : goal.decreases-primaries::read_tag_body
decreases-primaries::read_tag_body l = level l.room + 1

abbrev pub decreases-primaries::read_tag : goal.decreases-primaries::read_tag
decreases-primaries::read_tag l = level l.room + 2

abbrev pub decreases-primaries::read_part : goal.decreases-primaries::read_part
decreases-primaries::read_part l = level l.room + 1

abbrev pub decreases-primaries::next_part : goal.decreases-primaries::next_part
decreases-primaries::next_part l = level l.room + 2

abbrev pub decreases-primaries::more_parts : goal.decreases-primaries::more_parts
decreases-primaries::more_parts l = level l.room + 3

abbrev pub decreases-primaries::read_parts : goal.decreases-primaries::read_parts
decreases-primaries::read_parts l = level l.room + 4

abbrev pub decreases-primaries::read_record_end : goal.decreases-primaries::read_record_end
decreases-primaries::read_record_end l = level l.room + 1

abbrev pub decreases-primaries::read_record : goal.decreases-primaries::read_record
decreases-primaries::read_record l = level l.room + 4

abbrev pub decreases-primaries::read_round_body : goal.decreases-primaries::read_round_body
decreases-primaries::read_round_body l = level l.room + 5

abbrev pub decreases-primaries::read_round : goal.decreases-primaries::read_round
decreases-primaries::read_round l = level l.room + 6

abbrev pub decreases-primaries::read_list : goal.decreases-primaries::read_list
decreases-primaries::read_list l = level l.room + 5

abbrev pub decreases-primaries::read_prefixed : goal.decreases-primaries::read_prefixed
decreases-primaries::read_prefixed l = level l.room + 1

abbrev pub decreases-primaries::read_primary : goal.decreases-primaries::read_primary
decreases-primaries::read_primary l = level l.room + 7

abbrev pub decreases-blocks::read_let : goal.decreases-blocks::read_let
decreases-blocks::read_let l = level l.room + 1

abbrev pub decreases-blocks::read_statements : goal.decreases-blocks::read_statements
decreases-blocks::read_statements l = level l.room + 2

abbrev pub decreases-blocks::read_block : goal.decreases-blocks::read_block
decreases-blocks::read_block l = level l.room + 3

abbrev pub decreases-forms::read_if : goal.decreases-forms::read_if
decreases-forms::read_if l = level l.room + 1

abbrev pub decreases-forms::read_list_loop : goal.decreases-forms::read_list_loop
decreases-forms::read_list_loop l = level l.room + 1

abbrev pub decreases-forms::read_table_loop : goal.decreases-forms::read_table_loop
decreases-forms::read_table_loop l = level l.room + 1

abbrev pub decreases-forms::read_for : goal.decreases-forms::read_for
decreases-forms::read_for l = level l.room + 2

abbrev pub decreases-forms::read_where : goal.decreases-forms::read_where
decreases-forms::read_where l = level l.room + 1

abbrev pub decreases-forms::read_insert : goal.decreases-forms::read_insert
decreases-forms::read_insert l = level l.room + 1

abbrev pub decreases-forms::read_change_cond : goal.decreases-forms::read_change_cond
decreases-forms::read_change_cond l = level l.room + 1

abbrev pub decreases-forms::read_change : goal.decreases-forms::read_change
decreases-forms::read_change l = level l.room + 2

abbrev pub decreases-forms::read_update : goal.decreases-forms::read_update
decreases-forms::read_update l = level l.room + 5

abbrev pub decreases-forms::read_delete : goal.decreases-forms::read_delete
decreases-forms::read_delete l = level l.room + 3

abbrev pub decreases-forms::read_switch : goal.decreases-forms::read_switch
decreases-forms::read_switch l = level l.room + 4

abbrev pub decreases-forms::read_query : goal.decreases-forms::read_query
decreases-forms::read_query l = level l.room + 4

abbrev pub decreases-forms::read_lambda : goal.decreases-forms::read_lambda
decreases-forms::read_lambda l = level l.room + 4

abbrev pub decreases-forms::read_form : goal.decreases-forms::read_form
decreases-forms::read_form l = level l.room + 6

abbrev pub decreases-cases::read_tag_case : goal.decreases-cases::read_tag_case
decreases-cases::read_tag_case l = level l.room + 1

abbrev pub decreases-cases::read_last_case : goal.decreases-cases::read_last_case
decreases-cases::read_last_case l = level l.room + 1

abbrev pub decreases-cases::next_case : goal.decreases-cases::next_case
decreases-cases::next_case l = level l.room + 2

abbrev pub decreases-cases::more_cases : goal.decreases-cases::more_cases
decreases-cases::more_cases l = level l.room + 3

abbrev pub invariant-levels::more_operands-loop-turn : goal.invariant-levels::more_operands-loop-turn
invariant-levels::more_operands-loop-turn l = many (operator_next l.level) (operator_turn l.level (operand_over l.level (expr_at l.room) l.room)) (l.room - l._turn) l.left l.rest ≡ many (operator_next l.level) (operator_turn l.level (operand_over l.level (expr_at l.room) l.room)) l.room l.fn.first l.tokens

abbrev pub invariant-calls::more_args-loop-turn : goal.invariant-calls::more_args-loop-turn
invariant-calls::more_args-loop-turn l = many comma (args_turn (expr_at l.room)) (l.room - l._turn) l.args l.rest ≡ many comma (args_turn (expr_at l.room)) l.room l.fn.first l.tokens

abbrev pub invariant-calls::more_postfix-loop-turn : goal.invariant-calls::more_postfix-loop-turn
invariant-calls::more_postfix-loop-turn l = many postfix_next (postfix_turn (expr_at l.room) l.room) (l.room - l._turn) l.e l.rest ≡ many postfix_next (postfix_turn (expr_at l.room) l.room) l.room l.fn.first l.tokens

abbrev pub invariant-primaries::more_parts-loop-turn : goal.invariant-primaries::more_parts-loop-turn
invariant-primaries::more_parts-loop-turn l = many comma (parts_turn (expr_at l.room)) (l.room - l._turn) l.parts l.rest ≡ many comma (parts_turn (expr_at l.room)) l.room l.fn.first l.tokens

abbrev pub invariant-cases::more_cases-loop-turn : goal.invariant-cases::more_cases-loop-turn
invariant-cases::more_cases-loop-turn l = many case_next (cases_turn (expr_at l.room)) (l.room - l._turn) l.cases l.rest ≡ many case_next (cases_turn (expr_at l.room)) l.room l.fn.first l.tokens

abbrev pub invariant-blocks::read_statements-loop-turn : goal.invariant-blocks::read_statements-loop-turn
invariant-blocks::read_statements-loop-turn l = statements_with (expr_at l.room) (l.room - l._turn) l.list l.rest ≡ statements_with (expr_at l.room) l.room [] l.tokens
