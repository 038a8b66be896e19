use Rattle.lk_bodies.proofs.captured.bound_parts.Goals as goal
use Rattle.lk_bodies.proofs.Filling.{bound_more}

pub loop-name-preserved : goal.loop-name-preserved
loop-name-preserved c = bound_more c.args.names.now c.loop-name._name-index c.loop-name.parts c.push.new.self c.loop-name-test.true c.loop-name.invariant c.in_ok-push.ensures.ok
