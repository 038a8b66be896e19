use Rattle.lk_operators.proofs.Ascending.{finite-none}
use Rattle.lk_inline.proofs.sets.PartsByLabel.new.Goals as goal

pub returns : goal.returns
returns c = finite-none _ c.new.ensures.empty
