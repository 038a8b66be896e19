use Rattle.std.proofs.Common.{◌-◌, [], sym, ◌∙◌}
use Rattle.std.proofs.lemmas.Result.{err_from_is_err_and}
use Rattle.lk_read.proofs.Loops.{loop_done, loop_spent, loop_goes, loop_fails}
use Rattle.lk_read.specs.Reader.{many}
use Rattle.lk_rows.specs.Reading.{comma}
use Rattle.lk_grammar.specs.Reading.{operator_next, operator_turn, operand_over, args_turn, postfix_next, postfix_turn, parts_turn, case_next, cases_turn, statements_with, expr_at}
use Rattle.lk_grammar.proofs.Statements.{let_goes, let_fails, expr_fails, last_read, plain_goes, turns_spent}
use Rattle.lk_grammar.proofs.+expressions.Goals as goal
use Rattle.lk_grammar.proofs.+expressions.Goals.{blocks::read_statements-then-next_is_word+in_ok-next+in_ok-push, blocks::read_statements-else-next_is_word+in_ok-e+else-not-next_is_sign+in_ok-_end+in_ok-push-2}

pub levels::more_operands-returns-then-not-next_is_operator : goal.levels::more_operands-returns-then-not-next_is_operator
levels::more_operands-returns-then-not-next_is_operator t c = loop_done (operator_next c.args.level) (operator_turn c.args.level (operand_over c.args.level (expr_at c.args.room) c.args.room)) (c.args.room - c.loop-turn._turn) c.loop-turn.left c.loop-turn.rest.now (many (operator_next c.args.level) (operator_turn c.args.level (operand_over c.args.level (expr_at c.args.room) c.args.room)) c.args.room c.args.first c.args.tokens.now) (sym c.next_is_operator.ensures ∙ c.if-not-next_is_operator.true) c.loop-turn.invariant

pub levels::more_operands-returns-in_err-next : goal.levels::more_operands-returns-in_err-next
levels::more_operands-returns-in_err-next t c =
    let p = err_from_is_err_and c.from_residual.result c.from_residual.ensures.1 in
    rw (p.1, p.2) (loop_fails (operator_next c.args.level) (operator_turn c.args.level (operand_over c.args.level (expr_at c.args.room) c.args.room)) c.in_err-next.field-0.0 c.args.room c.loop-turn._turn c.loop-turn.left c.loop-turn.rest.now (many (operator_next c.args.level) (operator_turn c.args.level (operand_over c.args.level (expr_at c.args.room) c.args.room)) c.args.room c.args.first c.args.tokens.now) c.loop-turn-test.true (sym c.next_is_operator.ensures ∙ c.if-not-next_is_operator.false) c.in_err-next.ensures c.loop-turn.invariant)

pub levels::more_operands-loop-turn-preserved : goal.levels::more_operands-loop-turn-preserved
levels::more_operands-loop-turn-preserved t c = loop_goes (operator_next c.args.level) (operator_turn c.args.level (operand_over c.args.level (expr_at c.args.room) c.args.room)) c.args.room c.loop-turn._turn c.loop-turn.left c.in_ok-next.next c.loop-turn.rest.now c.in_ok-next.after.now (many (operator_next c.args.level) (operator_turn c.args.level (operand_over c.args.level (expr_at c.args.room) c.args.room)) c.args.room c.args.first c.args.tokens.now) c.loop-turn-test.true (sym c.next_is_operator.ensures ∙ c.if-not-next_is_operator.false) c.in_ok-next.ensures c.loop-turn.invariant

pub levels::more_operands-returns-then-next_is_operator : goal.levels::more_operands-returns-then-next_is_operator
levels::more_operands-returns-then-next_is_operator t c = loop_spent (operator_next c.args.level) (operator_turn c.args.level (operand_over c.args.level (expr_at c.args.room) c.args.room)) c.args.room c.loop-turn._turn c.loop-turn.left c.loop-turn.rest.now (many (operator_next c.args.level) (operator_turn c.args.level (operand_over c.args.level (expr_at c.args.room) c.args.room)) c.args.room c.args.first c.args.tokens.now) c.loop-turn-test.false (sym c.next_is_operator-2.ensures ∙ c.if-next_is_operator.true) c.loop-turn.invariant

pub levels::more_operands-returns-else-next_is_operator : goal.levels::more_operands-returns-else-next_is_operator
levels::more_operands-returns-else-next_is_operator t c = loop_done (operator_next c.args.level) (operator_turn c.args.level (operand_over c.args.level (expr_at c.args.room) c.args.room)) (c.args.room - c.loop-turn._turn) c.loop-turn.left c.loop-turn.rest.now (many (operator_next c.args.level) (operator_turn c.args.level (operand_over c.args.level (expr_at c.args.room) c.args.room)) c.args.room c.args.first c.args.tokens.now) (sym c.next_is_operator-2.ensures ∙ c.if-next_is_operator.false) c.loop-turn.invariant

pub calls::more_args-returns-then-not-next_is_sign : goal.calls::more_args-returns-then-not-next_is_sign
calls::more_args-returns-then-not-next_is_sign t c = loop_done comma (args_turn (expr_at c.args.room)) (c.args.room - c.loop-turn._turn) c.loop-turn.args c.loop-turn.rest.now (many comma (args_turn (expr_at c.args.room)) c.args.room c.args.first c.args.tokens.now) (sym c.next_is_sign.ensures ∙ c.if-not-next_is_sign.true) c.loop-turn.invariant

pub calls::more_args-returns-in_err-next : goal.calls::more_args-returns-in_err-next
calls::more_args-returns-in_err-next t c =
    let p = err_from_is_err_and c.from_residual.result c.from_residual.ensures.1 in
    rw (p.1, p.2) (loop_fails comma (args_turn (expr_at c.args.room)) c.in_err-next.field-0.0 c.args.room c.loop-turn._turn c.loop-turn.args c.loop-turn.rest.now (many comma (args_turn (expr_at c.args.room)) c.args.room c.args.first c.args.tokens.now) c.loop-turn-test.true (sym c.next_is_sign.ensures ∙ c.if-not-next_is_sign.false) c.in_err-next.ensures c.loop-turn.invariant)

pub calls::more_args-loop-turn-preserved : goal.calls::more_args-loop-turn-preserved
calls::more_args-loop-turn-preserved t c = loop_goes comma (args_turn (expr_at c.args.room)) c.args.room c.loop-turn._turn c.loop-turn.args c.in_ok-next.next c.loop-turn.rest.now c.in_ok-next.after.now (many comma (args_turn (expr_at c.args.room)) c.args.room c.args.first c.args.tokens.now) c.loop-turn-test.true (sym c.next_is_sign.ensures ∙ c.if-not-next_is_sign.false) c.in_ok-next.ensures c.loop-turn.invariant

pub calls::more_args-returns-then-next_is_sign : goal.calls::more_args-returns-then-next_is_sign
calls::more_args-returns-then-next_is_sign t c = loop_spent comma (args_turn (expr_at c.args.room)) c.args.room c.loop-turn._turn c.loop-turn.args c.loop-turn.rest.now (many comma (args_turn (expr_at c.args.room)) c.args.room c.args.first c.args.tokens.now) c.loop-turn-test.false (sym c.next_is_sign-2.ensures ∙ c.if-next_is_sign.true) c.loop-turn.invariant

pub calls::more_args-returns-else-next_is_sign : goal.calls::more_args-returns-else-next_is_sign
calls::more_args-returns-else-next_is_sign t c = loop_done comma (args_turn (expr_at c.args.room)) (c.args.room - c.loop-turn._turn) c.loop-turn.args c.loop-turn.rest.now (many comma (args_turn (expr_at c.args.room)) c.args.room c.args.first c.args.tokens.now) (sym c.next_is_sign-2.ensures ∙ c.if-next_is_sign.false) c.loop-turn.invariant

pub calls::more_postfix-returns-then-not-next_is_postfix : goal.calls::more_postfix-returns-then-not-next_is_postfix
calls::more_postfix-returns-then-not-next_is_postfix t c = loop_done postfix_next (postfix_turn (expr_at c.args.room) c.args.room) (c.args.room - c.loop-turn._turn) c.loop-turn.e c.loop-turn.rest.now (many postfix_next (postfix_turn (expr_at c.args.room) c.args.room) c.args.room c.args.first c.args.tokens.now) (sym c.next_is_postfix.ensures ∙ c.if-not-next_is_postfix.true) c.loop-turn.invariant

pub calls::more_postfix-returns-in_err-next : goal.calls::more_postfix-returns-in_err-next
calls::more_postfix-returns-in_err-next t c =
    let p = err_from_is_err_and c.from_residual.result c.from_residual.ensures.1 in
    rw (p.1, p.2) (loop_fails postfix_next (postfix_turn (expr_at c.args.room) c.args.room) c.in_err-next.field-0.0 c.args.room c.loop-turn._turn c.loop-turn.e c.loop-turn.rest.now (many postfix_next (postfix_turn (expr_at c.args.room) c.args.room) c.args.room c.args.first c.args.tokens.now) c.loop-turn-test.true (sym c.next_is_postfix.ensures ∙ c.if-not-next_is_postfix.false) c.in_err-next.ensures c.loop-turn.invariant)

pub calls::more_postfix-loop-turn-preserved : goal.calls::more_postfix-loop-turn-preserved
calls::more_postfix-loop-turn-preserved t c = loop_goes postfix_next (postfix_turn (expr_at c.args.room) c.args.room) c.args.room c.loop-turn._turn c.loop-turn.e c.in_ok-next.next c.loop-turn.rest.now c.in_ok-next.after.now (many postfix_next (postfix_turn (expr_at c.args.room) c.args.room) c.args.room c.args.first c.args.tokens.now) c.loop-turn-test.true (sym c.next_is_postfix.ensures ∙ c.if-not-next_is_postfix.false) c.in_ok-next.ensures c.loop-turn.invariant

pub calls::more_postfix-returns-then-next_is_postfix : goal.calls::more_postfix-returns-then-next_is_postfix
calls::more_postfix-returns-then-next_is_postfix t c = loop_spent postfix_next (postfix_turn (expr_at c.args.room) c.args.room) c.args.room c.loop-turn._turn c.loop-turn.e c.loop-turn.rest.now (many postfix_next (postfix_turn (expr_at c.args.room) c.args.room) c.args.room c.args.first c.args.tokens.now) c.loop-turn-test.false (sym c.next_is_postfix-2.ensures ∙ c.if-next_is_postfix.true) c.loop-turn.invariant

pub calls::more_postfix-returns-else-next_is_postfix : goal.calls::more_postfix-returns-else-next_is_postfix
calls::more_postfix-returns-else-next_is_postfix t c = loop_done postfix_next (postfix_turn (expr_at c.args.room) c.args.room) (c.args.room - c.loop-turn._turn) c.loop-turn.e c.loop-turn.rest.now (many postfix_next (postfix_turn (expr_at c.args.room) c.args.room) c.args.room c.args.first c.args.tokens.now) (sym c.next_is_postfix-2.ensures ∙ c.if-next_is_postfix.false) c.loop-turn.invariant

pub primaries::more_parts-returns-then-not-next_is_sign : goal.primaries::more_parts-returns-then-not-next_is_sign
primaries::more_parts-returns-then-not-next_is_sign t c = loop_done comma (parts_turn (expr_at c.args.room)) (c.args.room - c.loop-turn._turn) c.loop-turn.parts c.loop-turn.rest.now (many comma (parts_turn (expr_at c.args.room)) c.args.room c.args.first c.args.tokens.now) (sym c.next_is_sign.ensures ∙ c.if-not-next_is_sign.true) c.loop-turn.invariant

pub primaries::more_parts-returns-in_err-next : goal.primaries::more_parts-returns-in_err-next
primaries::more_parts-returns-in_err-next t c =
    let p = err_from_is_err_and c.from_residual.result c.from_residual.ensures.1 in
    rw (p.1, p.2) (loop_fails comma (parts_turn (expr_at c.args.room)) c.in_err-next.field-0.0 c.args.room c.loop-turn._turn c.loop-turn.parts c.loop-turn.rest.now (many comma (parts_turn (expr_at c.args.room)) c.args.room c.args.first c.args.tokens.now) c.loop-turn-test.true (sym c.next_is_sign.ensures ∙ c.if-not-next_is_sign.false) c.in_err-next.ensures c.loop-turn.invariant)

pub primaries::more_parts-loop-turn-preserved : goal.primaries::more_parts-loop-turn-preserved
primaries::more_parts-loop-turn-preserved t c = loop_goes comma (parts_turn (expr_at c.args.room)) c.args.room c.loop-turn._turn c.loop-turn.parts c.in_ok-next.next c.loop-turn.rest.now c.in_ok-next.after.now (many comma (parts_turn (expr_at c.args.room)) c.args.room c.args.first c.args.tokens.now) c.loop-turn-test.true (sym c.next_is_sign.ensures ∙ c.if-not-next_is_sign.false) c.in_ok-next.ensures c.loop-turn.invariant

pub primaries::more_parts-returns-then-next_is_sign : goal.primaries::more_parts-returns-then-next_is_sign
primaries::more_parts-returns-then-next_is_sign t c = loop_spent comma (parts_turn (expr_at c.args.room)) c.args.room c.loop-turn._turn c.loop-turn.parts c.loop-turn.rest.now (many comma (parts_turn (expr_at c.args.room)) c.args.room c.args.first c.args.tokens.now) c.loop-turn-test.false (sym c.next_is_sign-2.ensures ∙ c.if-next_is_sign.true) c.loop-turn.invariant

pub primaries::more_parts-returns-else-next_is_sign : goal.primaries::more_parts-returns-else-next_is_sign
primaries::more_parts-returns-else-next_is_sign t c = loop_done comma (parts_turn (expr_at c.args.room)) (c.args.room - c.loop-turn._turn) c.loop-turn.parts c.loop-turn.rest.now (many comma (parts_turn (expr_at c.args.room)) c.args.room c.args.first c.args.tokens.now) (sym c.next_is_sign-2.ensures ∙ c.if-next_is_sign.false) c.loop-turn.invariant

pub cases::more_cases-returns-then-not-next_is_word : goal.cases::more_cases-returns-then-not-next_is_word
cases::more_cases-returns-then-not-next_is_word t c = loop_done case_next (cases_turn (expr_at c.args.room)) (c.args.room - c.loop-turn._turn) c.loop-turn.cases c.loop-turn.rest.now (many case_next (cases_turn (expr_at c.args.room)) c.args.room c.args.first c.args.tokens.now) (sym c.next_is_word.ensures ∙ c.if-not-next_is_word.true) c.loop-turn.invariant

pub cases::more_cases-returns-in_err-next : goal.cases::more_cases-returns-in_err-next
cases::more_cases-returns-in_err-next t c =
    let p = err_from_is_err_and c.from_residual.result c.from_residual.ensures.1 in
    rw (p.1, p.2) (loop_fails case_next (cases_turn (expr_at c.args.room)) c.in_err-next.field-0.0 c.args.room c.loop-turn._turn c.loop-turn.cases c.loop-turn.rest.now (many case_next (cases_turn (expr_at c.args.room)) c.args.room c.args.first c.args.tokens.now) c.loop-turn-test.true (sym c.next_is_word.ensures ∙ c.if-not-next_is_word.false) c.in_err-next.ensures c.loop-turn.invariant)

pub cases::more_cases-loop-turn-preserved : goal.cases::more_cases-loop-turn-preserved
cases::more_cases-loop-turn-preserved t c = loop_goes case_next (cases_turn (expr_at c.args.room)) c.args.room c.loop-turn._turn c.loop-turn.cases c.in_ok-next.next c.loop-turn.rest.now c.in_ok-next.after.now (many case_next (cases_turn (expr_at c.args.room)) c.args.room c.args.first c.args.tokens.now) c.loop-turn-test.true (sym c.next_is_word.ensures ∙ c.if-not-next_is_word.false) c.in_ok-next.ensures c.loop-turn.invariant

pub cases::more_cases-returns-then-next_is_word : goal.cases::more_cases-returns-then-next_is_word
cases::more_cases-returns-then-next_is_word t c = loop_spent case_next (cases_turn (expr_at c.args.room)) c.args.room c.loop-turn._turn c.loop-turn.cases c.loop-turn.rest.now (many case_next (cases_turn (expr_at c.args.room)) c.args.room c.args.first c.args.tokens.now) c.loop-turn-test.false (sym c.next_is_word-2.ensures ∙ c.if-next_is_word.true) c.loop-turn.invariant

pub cases::more_cases-returns-else-next_is_word : goal.cases::more_cases-returns-else-next_is_word
cases::more_cases-returns-else-next_is_word t c = loop_done case_next (cases_turn (expr_at c.args.room)) (c.args.room - c.loop-turn._turn) c.loop-turn.cases c.loop-turn.rest.now (many case_next (cases_turn (expr_at c.args.room)) c.args.room c.args.first c.args.tokens.now) (sym c.next_is_word-2.ensures ∙ c.if-next_is_word.false) c.loop-turn.invariant

pub blocks::read_statements-returns-in_err-next : goal.blocks::read_statements-returns-in_err-next
blocks::read_statements-returns-in_err-next t c =
    let p = err_from_is_err_and c.from_residual.result c.from_residual.ensures.1 in
    rw (p.1, p.2) (let_fails (expr_at c.args.room) c.args.room c.loop-turn._turn c.loop-turn.list c.loop-turn.rest.now (statements_with (expr_at c.args.room) c.args.room [] c.args.tokens.now) c.in_err-next.field-0.0 c.loop-turn-test.true (sym c.next_is_word.ensures ∙ c.if-next_is_word.true) c.in_err-next.ensures c.loop-turn.invariant)

pub blocks::read_statements-returns-in_err-e : goal.blocks::read_statements-returns-in_err-e
blocks::read_statements-returns-in_err-e t c =
    let p = err_from_is_err_and c.from_residual-in_err-e.result c.from_residual-in_err-e.ensures.1 in
    rw (p.1, p.2) (expr_fails (expr_at c.args.room) c.args.room c.loop-turn._turn c.loop-turn.list c.loop-turn.rest.now (statements_with (expr_at c.args.room) c.args.room [] c.args.tokens.now) c.in_err-e.field-0.0 c.loop-turn-test.true (sym c.next_is_word.ensures ∙ c.if-next_is_word.false) c.in_err-e.ensures c.loop-turn.invariant)

pub blocks::read_statements-returns-then-not-next_is_sign : goal.blocks::read_statements-returns-then-not-next_is_sign
blocks::read_statements-returns-then-not-next_is_sign t c = last_read (expr_at c.args.room) c.args.room c.loop-turn._turn c.loop-turn.list c.loop-turn.rest.now (statements_with (expr_at c.args.room) c.args.room [] c.args.tokens.now) c.in_ok-e.e c.in_ok-e.after.now c.loop-turn-test.true (sym c.next_is_word.ensures ∙ c.if-next_is_word.false) c.in_ok-e.ensures (sym c.next_is_sign.ensures ∙ c.if-not-next_is_sign.true) c.loop-turn.invariant

pub blocks::read_statements-loop-turn-preserved : goal.blocks::read_statements-loop-turn-preserved
blocks::read_statements-loop-turn-preserved t c = elim c.if-next_is_word.branch [
  | blocks::read_statements-then-next_is_word+in_ok-next+in_ok-push w ↦
      rw (w.list-is, w.in_ok-push.ensures.ok, w.rest-is) (let_goes (expr_at c.args.room) c.args.room c.loop-turn._turn c.loop-turn.list c.loop-turn.rest.now (statements_with (expr_at c.args.room) c.args.room [] c.args.tokens.now) w.in_ok-next.next w.in_ok-next.after.now c.loop-turn-test.true (sym c.next_is_word.ensures ∙ w.if-next_is_word.true) w.in_ok-next.ensures c.loop-turn.invariant)
  | blocks::read_statements-else-next_is_word+in_ok-e+else-not-next_is_sign+in_ok-_end+in_ok-push-2 w ↦
      rw (w.list-is, w.in_ok-push-2.ensures.ok, w.plain_statement.ensures, w.rest-is) (plain_goes (expr_at c.args.room) c.args.room c.loop-turn._turn c.loop-turn.list c.loop-turn.rest.now (statements_with (expr_at c.args.room) c.args.room [] c.args.tokens.now) w.in_ok-e.e w.in_ok-_end._end.now w.in_ok-e.after.now w.in_ok-_end.after.now c.loop-turn-test.true (sym c.next_is_word.ensures ∙ w.if-next_is_word.false) w.in_ok-e.ensures (sym w.next_is_sign.ensures ∙ w.if-not-next_is_sign.false) w.in_ok-_end.ensures c.loop-turn.invariant)
]

pub blocks::read_statements-returns : goal.blocks::read_statements-returns
blocks::read_statements-returns t c = turns_spent (expr_at c.args.room) c.args.room c.loop-turn._turn c.loop-turn.list c.loop-turn.rest.now (statements_with (expr_at c.args.room) c.args.room [] c.args.tokens.now) c.loop-turn-test.false c.loop-turn.invariant
