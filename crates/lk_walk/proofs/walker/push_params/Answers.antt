use Rattle.lk_walk.proofs.Params.{push_step}
use Rattle.lk_walk.proofs.walker.push_params.Goals as goal

pub loop-param-preserved : goal.loop-param-preserved
loop-param-preserved c = push_step c.args.first c.loop-param.number c.loop-param.rest.now c.in-Some.front.now c.in-Some.param.now _ c.loop-param.names _ _ c.in-Some.ensures.cases.0 c.as_str.ensures c.loop-param.invariant.1 c.in_ok-push.ensures c.loop-param.invariant.0
