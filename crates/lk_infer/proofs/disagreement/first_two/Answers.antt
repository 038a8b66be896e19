use Rattle.lk_infer.proofs.WrittenOut.{two_first}
use Rattle.lk_infer.proofs.disagreement.first_two.Goals as goal

pub returns : goal.returns
returns c = two_first c.args.types.now _ _ c.in_ok-left.ensures c.in_ok-right.ensures
