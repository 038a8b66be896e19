use Rattle.lk_lower.proofs.Shaping.{call_shaped}
use Rattle.lk_lower.proofs.named.call.Goals as goal
use Rattle.lk_lower.specs.Walked.{state_of}

pub returns : goal.returns
returns c = λ h args owner n ty. call_shaped owner n ty (state_of c.args.walk.now) (state_of c.take_use.new.walk) h args c.in_ok-take_use.field-0 c.in_ok-take_use.ensures.call c.in_ok-take_use.ensures.state
