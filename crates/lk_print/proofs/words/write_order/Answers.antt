use Rattle.std.proofs.lemmas.Result.{on_ok_weaker}
use Rattle.lk_print.proofs.Appends.{order_line}
use Rattle.lk_print.proofs.words.write_order.Goals as goal

pub returns-in_ok-write_keys-in-Some : goal.returns-in_ok-write_keys-in-Some
returns-in_ok-write_keys-in-Some c = on_ok_weaker c.write_sign-in-Some.result (order_line c.args.line.now _ _ _ _ c.in-Some.first.now c.in-Some.rest.now c.args.keys.now c.in-Some.ensures.cases.0 c.in_ok-write_word-in-Some.ensures c.in_ok-write_sign-in-Some.ensures c.in_ok-write_keys-in-Some.ensures) c.write_sign-in-Some.ensures
