use Rattle.lk_lower.proofs.Shaping.{bind_shaped}
use Rattle.lk_lower.proofs.named.bind.Goals as goal
use Rattle.lk_lower.specs.Walked.{state_of}

pub returns : goal.returns
returns c = λ e rest owner n ty. bind_shaped owner n ty (state_of c.args.walk.now) (state_of c.name_place.new.walk) c.args.name.now e rest c.in_ok-name_place.field-0 c.in_ok-name_place.ensures.name c.in_ok-name_place.ensures.state
