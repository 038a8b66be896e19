use Rattle.lk_types.proofs.Kept.{cut_out}
use Rattle.lk_types.proofs.moves.some_numbers.Goals as goal

pub returns : goal.returns
returns c = cut_out c.args.numbers.now c.args.from c.args.count c.min.result c.min-2.result c.min.ensures c.min-2.ensures
