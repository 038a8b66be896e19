use Rattle.std.proofs.Common.{◌-◌, sym, ◌∙◌}
use Rattle.std.proofs.lemmas.Result.{err_from_is_err_and}
use Rattle.lk_read.specs.Reader.{many}
use Rattle.lk_read.proofs.Loops.{loop_done, loop_spent, loop_goes, loop_fails}
use Rattle.lk_rows.specs.Reading.{comma}
use Rattle.lk_grammar.specs.Reading.{keys_turn}
use Rattle.lk_grammar.proofs.names.more_keys.Goals as goal

pub returns-then-not-next_is_sign : goal.returns-then-not-next_is_sign
returns-then-not-next_is_sign c = loop_done comma keys_turn (c.args.room - c.loop-turn._turn) c.loop-turn.keys c.loop-turn.rest.now (many comma keys_turn c.args.room c.args.first c.args.tokens.now) (sym c.next_is_sign.ensures ∙ c.if-not-next_is_sign.true) c.loop-turn.invariant

pub returns-in_err-next : goal.returns-in_err-next
returns-in_err-next c =
    let p = err_from_is_err_and c.from_residual.result c.from_residual.ensures.1 in
    rw (p.1, p.2) (loop_fails comma keys_turn c.in_err-next.field-0.0 c.args.room c.loop-turn._turn c.loop-turn.keys c.loop-turn.rest.now (many comma keys_turn c.args.room c.args.first c.args.tokens.now) c.loop-turn-test.true (sym c.next_is_sign.ensures ∙ c.if-not-next_is_sign.false) c.in_err-next.ensures c.loop-turn.invariant)

pub loop-turn-preserved : goal.loop-turn-preserved
loop-turn-preserved c = loop_goes comma keys_turn c.args.room c.loop-turn._turn c.loop-turn.keys c.in_ok-next.next c.loop-turn.rest.now c.in_ok-next.after.now (many comma keys_turn c.args.room c.args.first c.args.tokens.now) c.loop-turn-test.true (sym c.next_is_sign.ensures ∙ c.if-not-next_is_sign.false) c.in_ok-next.ensures c.loop-turn.invariant

pub returns-then-next_is_sign : goal.returns-then-next_is_sign
returns-then-next_is_sign c = loop_spent comma keys_turn c.args.room c.loop-turn._turn c.loop-turn.keys c.loop-turn.rest.now (many comma keys_turn c.args.room c.args.first c.args.tokens.now) c.loop-turn-test.false (sym c.next_is_sign-2.ensures ∙ c.if-next_is_sign.true) c.loop-turn.invariant

pub returns-else-next_is_sign : goal.returns-else-next_is_sign
returns-else-next_is_sign c = loop_done comma keys_turn (c.args.room - c.loop-turn._turn) c.loop-turn.keys c.loop-turn.rest.now (many comma keys_turn c.args.room c.args.first c.args.tokens.now) (sym c.next_is_sign-2.ensures ∙ c.if-next_is_sign.false) c.loop-turn.invariant
