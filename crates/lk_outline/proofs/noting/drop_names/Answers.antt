use Rattle.std.proofs.Common.{ap, ◌∙◌, drop}
use Rattle.lk_outline.proofs.Put.{drop_one}
use Rattle.lk_outline.proofs.noting.drop_names.Goals as goal

pub loop-i-preserved : goal.loop-i-preserved
loop-i-preserved c = c.pop.ensures ∙ ap (drop 1) c.loop-i.invariant ∙ drop_one c.loop-i._i c.args.scope.now
