use Rattle.lk_lower.proofs.Shaping.{function_shaped}
use Rattle.lk_lower.proofs.named.function.Goals as goal
use Rattle.lk_lower.specs.Walked.{state_of}

pub returns : goal.returns
returns c = λ h owner n ty. function_shaped owner n ty (state_of c.args.walk.now) (state_of c.take_use.new.walk) h c.in_ok-take_use.field-0 c.in_ok-take_use.ensures.call c.in_ok-take_use.ensures.state
