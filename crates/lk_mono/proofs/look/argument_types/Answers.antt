use Rattle.std.proofs.Common.{get_or, refl}
use Rattle.lk_mono.proofs.Numbering.{one_more_param}
use Rattle.lk_mono.proofs.look.argument_types.Goals as goal

pub loop-arg-preserved : goal.loop-arg-preserved
loop-arg-preserved c =
    one_more_param c.args.grounds.now c.loop-arg.grounds c.number_at.new.grounds c.args.numbers.now c.args.args.now c.loop-arg.params c.push.new.self c.loop-arg.arg-index (get_or c.args.args.now c.loop-arg.arg-index 0) 0 c.in_ok-number_at.field-0 c.requires c.loop-arg.invariant
    c.loop-arg-test.true refl c.in_ok-number_at.ensures.is c.in_ok-number_at.ensures.within c.number_at.ensures.more c.in_ok-push.ensures.ok
