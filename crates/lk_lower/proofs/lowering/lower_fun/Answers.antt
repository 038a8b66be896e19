use Rattle.std.proofs.Common.{refl}
use Rattle.lk_lower.proofs.Following.{fun_lowered}
use Rattle.lk_lower.proofs.lowering.lower_fun.Goals as goal
use Rattle.lk_lower.specs.Walked.{state_of}

pub returns : goal.returns
returns c = fun_lowered c.args.number c.in_ok-label.label _ c.args.fun.now (state_of c.args.walk.now) (state_of c.begin_fun.new.walk) (state_of c.expr.new.walk) refl c.in_ok-label.ensures c.in_ok-expr.ensures
