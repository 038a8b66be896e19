use Rattle.std.proofs.Common.{◌∙◌, ap}
use Rattle.lk_infer.specs.LacksInOrder.{has_lack, lack_of}
use Rattle.lk_infer.proofs.LackSets.{found_pair}
use Rattle.lk_infer.proofs.lacks.Shown.has.Goals as goal

pub returns : goal.returns
returns c = c.contains.ensures ∙ found_pair c.self.inside.pairs.keys c.args.pair.now ∙ ap (λ lacks. has_lack lacks (lack_of c.args.pair.now)) c.self.view_is
