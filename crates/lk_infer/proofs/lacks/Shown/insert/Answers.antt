use Rattle.std.proofs.Common.{◌∙◌, ap, map}
use Rattle.lk_infer.specs.LacksInOrder.{lack_of, with_lack}
use Rattle.lk_infer.proofs.LackSets.{inserted}
use Rattle.lk_infer.proofs.lacks.Shown.insert.Goals as goal

pub returns : goal.returns
returns c =
    ap (map lack_of) c.in_ok-insert.ensures.keys
    ∙ inserted c.self.inside.pairs.keys (c.args.var, c.in_ok-label.label)
    ∙ (λ i. with_lack (c.self.view_is i) (record { var = c.args.var; label = c.in_ok-label.ensures.ok i }))
