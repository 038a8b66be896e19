use Rattle.lk_lower.proofs.Shaping.{label_pushed}
use Rattle.lk_lower.proofs.walk.push_label.Goals as goal

pub returns : goal.returns
returns c = label_pushed c.args.walk.now c.push.new.self c.args.form c.in_ok-push.ensures
