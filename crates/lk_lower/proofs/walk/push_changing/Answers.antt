use Rattle.lk_lower.proofs.Shaping.{changing_pushed}
use Rattle.lk_lower.proofs.walk.push_changing.Goals as goal

pub returns : goal.returns
returns c = changing_pushed c.args.walk.now c.push_beside.new.self c.args.form c.args.table c.in_ok-push_beside.ensures
