use Rattle.lk_lower.proofs.Shaping.{name_shaped}
use Rattle.lk_lower.proofs.named.local.Goals as goal
use Rattle.lk_lower.specs.Walked.{state_of}

pub returns : goal.returns
returns c = λ owner n ty. name_shaped owner n ty (state_of c.args.walk.now) (state_of c.name_place.new.walk) c.args.name.now c.in_ok-name_place.field-0 c.in_ok-name_place.ensures.name c.in_ok-name_place.ensures.state
