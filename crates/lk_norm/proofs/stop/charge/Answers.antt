use Rattle.lk_norm.proofs.Budget.{taken_none, taken_some}
use Rattle.lk_norm.proofs.stop.charge.Goals as goal

pub returns-then-left-bytes : goal.returns-then-left-bytes
returns-then-left-bytes c = taken_none _ _ c.if-left-bytes.true

pub returns : goal.returns
returns c = taken_some _ _ c.if-left-bytes.false
