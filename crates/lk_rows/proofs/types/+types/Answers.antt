use Rattle.std.proofs.Common.{◌-◌, sym, ◌∙◌}
use Rattle.std.proofs.lemmas.Result.{err_from_is_err_and}
use Rattle.lk_read.specs.Reader.{many}
use Rattle.lk_read.proofs.Loops.{loop_done, loop_spent, loop_goes, loop_fails}
use Rattle.lk_rows.specs.Reading.{comma, is_label, fields_turn, types_turn, type_at}
use Rattle.lk_rows.proofs.types.+types.Goals as goal

pub more_fields-returns-then-not-next_is_sign : goal.more_fields-returns-then-not-next_is_sign
more_fields-returns-then-not-next_is_sign t c = loop_done comma (fields_turn (is_label c.args.label) (type_at c.args.room)) (c.args.room - c.loop-turn._turn) c.loop-turn.parts c.loop-turn.rest.now (many comma (fields_turn (is_label c.args.label) (type_at c.args.room)) c.args.room c.args.first c.args.tokens.now) (sym c.next_is_sign.ensures ∙ c.if-not-next_is_sign.true) c.loop-turn.invariant

pub more_fields-returns-in_err-next : goal.more_fields-returns-in_err-next
more_fields-returns-in_err-next t c =
    let p = err_from_is_err_and c.from_residual.result c.from_residual.ensures.1 in
    rw (p.1, p.2) (loop_fails comma (fields_turn (is_label c.args.label) (type_at c.args.room)) c.in_err-next.field-0.0 c.args.room c.loop-turn._turn c.loop-turn.parts c.loop-turn.rest.now (many comma (fields_turn (is_label c.args.label) (type_at c.args.room)) c.args.room c.args.first c.args.tokens.now) c.loop-turn-test.true (sym c.next_is_sign.ensures ∙ c.if-not-next_is_sign.false) c.in_err-next.ensures c.loop-turn.invariant)

pub more_fields-loop-turn-preserved : goal.more_fields-loop-turn-preserved
more_fields-loop-turn-preserved t c = loop_goes comma (fields_turn (is_label c.args.label) (type_at c.args.room)) c.args.room c.loop-turn._turn c.loop-turn.parts c.in_ok-next.next c.loop-turn.rest.now c.in_ok-next.after.now (many comma (fields_turn (is_label c.args.label) (type_at c.args.room)) c.args.room c.args.first c.args.tokens.now) c.loop-turn-test.true (sym c.next_is_sign.ensures ∙ c.if-not-next_is_sign.false) c.in_ok-next.ensures c.loop-turn.invariant

pub more_fields-returns-then-next_is_sign : goal.more_fields-returns-then-next_is_sign
more_fields-returns-then-next_is_sign t c = loop_spent comma (fields_turn (is_label c.args.label) (type_at c.args.room)) c.args.room c.loop-turn._turn c.loop-turn.parts c.loop-turn.rest.now (many comma (fields_turn (is_label c.args.label) (type_at c.args.room)) c.args.room c.args.first c.args.tokens.now) c.loop-turn-test.false (sym c.next_is_sign-2.ensures ∙ c.if-next_is_sign.true) c.loop-turn.invariant

pub more_fields-returns-else-next_is_sign : goal.more_fields-returns-else-next_is_sign
more_fields-returns-else-next_is_sign t c = loop_done comma (fields_turn (is_label c.args.label) (type_at c.args.room)) (c.args.room - c.loop-turn._turn) c.loop-turn.parts c.loop-turn.rest.now (many comma (fields_turn (is_label c.args.label) (type_at c.args.room)) c.args.room c.args.first c.args.tokens.now) (sym c.next_is_sign-2.ensures ∙ c.if-next_is_sign.false) c.loop-turn.invariant

pub more_types-returns-then-not-next_is_sign : goal.more_types-returns-then-not-next_is_sign
more_types-returns-then-not-next_is_sign t c = loop_done comma (types_turn (type_at c.args.room)) (c.args.room - c.loop-turn._turn) c.loop-turn.types c.loop-turn.rest.now (many comma (types_turn (type_at c.args.room)) c.args.room c.args.first c.args.tokens.now) (sym c.next_is_sign.ensures ∙ c.if-not-next_is_sign.true) c.loop-turn.invariant

pub more_types-returns-in_err-next : goal.more_types-returns-in_err-next
more_types-returns-in_err-next t c =
    let p = err_from_is_err_and c.from_residual.result c.from_residual.ensures.1 in
    rw (p.1, p.2) (loop_fails comma (types_turn (type_at c.args.room)) c.in_err-next.field-0.0 c.args.room c.loop-turn._turn c.loop-turn.types c.loop-turn.rest.now (many comma (types_turn (type_at c.args.room)) c.args.room c.args.first c.args.tokens.now) c.loop-turn-test.true (sym c.next_is_sign.ensures ∙ c.if-not-next_is_sign.false) c.in_err-next.ensures c.loop-turn.invariant)

pub more_types-loop-turn-preserved : goal.more_types-loop-turn-preserved
more_types-loop-turn-preserved t c = loop_goes comma (types_turn (type_at c.args.room)) c.args.room c.loop-turn._turn c.loop-turn.types c.in_ok-next.next c.loop-turn.rest.now c.in_ok-next.after.now (many comma (types_turn (type_at c.args.room)) c.args.room c.args.first c.args.tokens.now) c.loop-turn-test.true (sym c.next_is_sign.ensures ∙ c.if-not-next_is_sign.false) c.in_ok-next.ensures c.loop-turn.invariant

pub more_types-returns-then-next_is_sign : goal.more_types-returns-then-next_is_sign
more_types-returns-then-next_is_sign t c = loop_spent comma (types_turn (type_at c.args.room)) c.args.room c.loop-turn._turn c.loop-turn.types c.loop-turn.rest.now (many comma (types_turn (type_at c.args.room)) c.args.room c.args.first c.args.tokens.now) c.loop-turn-test.false (sym c.next_is_sign-2.ensures ∙ c.if-next_is_sign.true) c.loop-turn.invariant

pub more_types-returns-else-next_is_sign : goal.more_types-returns-else-next_is_sign
more_types-returns-else-next_is_sign t c = loop_done comma (types_turn (type_at c.args.room)) (c.args.room - c.loop-turn._turn) c.loop-turn.types c.loop-turn.rest.now (many comma (types_turn (type_at c.args.room)) c.args.room c.args.first c.args.tokens.now) (sym c.next_is_sign-2.ensures ∙ c.if-next_is_sign.false) c.loop-turn.invariant
