use Rattle.std.proofs.Common.{◌-◌, sym, ◌∙◌}
use Rattle.std.proofs.lemmas.Result.{err_from_is_err_and}
use Rattle.lk_read.specs.Reader.{many}
use Rattle.lk_read.proofs.Loops.{loop_done, loop_spent, loop_goes, loop_fails}
use Rattle.lk_grammar.specs.ReadingPrograms.{fun_next, funs_turn}
use Rattle.lk_grammar.proofs.program.more_funs.Goals as goal

pub returns-then-not-next_is_fun : goal.returns-then-not-next_is_fun
returns-then-not-next_is_fun c = loop_done fun_next (funs_turn c.args.room) (c.args.room - c.loop-turn._turn) c.loop-turn.funs c.loop-turn.rest.now (many fun_next (funs_turn c.args.room) c.args.room c.args.first c.args.tokens.now) (sym c.next_is_fun.ensures ∙ c.if-not-next_is_fun.true) c.loop-turn.invariant

pub returns-in_err-next : goal.returns-in_err-next
returns-in_err-next c =
    let p = err_from_is_err_and c.from_residual.result c.from_residual.ensures.1 in
    rw (p.1, p.2) (loop_fails fun_next (funs_turn c.args.room) c.in_err-next.field-0.0 c.args.room c.loop-turn._turn c.loop-turn.funs c.loop-turn.rest.now (many fun_next (funs_turn c.args.room) c.args.room c.args.first c.args.tokens.now) c.loop-turn-test.true (sym c.next_is_fun.ensures ∙ c.if-not-next_is_fun.false) c.in_err-next.ensures c.loop-turn.invariant)

pub loop-turn-preserved : goal.loop-turn-preserved
loop-turn-preserved c = loop_goes fun_next (funs_turn c.args.room) c.args.room c.loop-turn._turn c.loop-turn.funs c.in_ok-next.next c.loop-turn.rest.now c.in_ok-next.after.now (many fun_next (funs_turn c.args.room) c.args.room c.args.first c.args.tokens.now) c.loop-turn-test.true (sym c.next_is_fun.ensures ∙ c.if-not-next_is_fun.false) c.in_ok-next.ensures c.loop-turn.invariant

pub returns-then-next_is_fun : goal.returns-then-next_is_fun
returns-then-next_is_fun c = loop_spent fun_next (funs_turn c.args.room) c.args.room c.loop-turn._turn c.loop-turn.funs c.loop-turn.rest.now (many fun_next (funs_turn c.args.room) c.args.room c.args.first c.args.tokens.now) c.loop-turn-test.false (sym c.next_is_fun-2.ensures ∙ c.if-next_is_fun.true) c.loop-turn.invariant

pub returns-else-next_is_fun : goal.returns-else-next_is_fun
returns-else-next_is_fun c = loop_done fun_next (funs_turn c.args.room) (c.args.room - c.loop-turn._turn) c.loop-turn.funs c.loop-turn.rest.now (many fun_next (funs_turn c.args.room) c.args.room c.args.first c.args.tokens.now) (sym c.next_is_fun-2.ensures ∙ c.if-next_is_fun.false) c.loop-turn.invariant
