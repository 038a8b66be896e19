use Rattle.std.proofs.Common.{refl}
use Rattle.lk_lower.proofs.Shaping.{node_pushed}
use Rattle.lk_lower.proofs.walk.push_node.Goals as goal
use Rattle.lk_lower.specs.Walked.{state_of}

pub returns : goal.returns
returns c = node_pushed (state_of c.args.walk.now) c.push.new.self.items c.args.form refl c.in_ok-push.ensures.items
