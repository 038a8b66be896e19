use Rattle.std.proofs.Common.{ap, ◌∙◌, drop}
use Rattle.lk_bodies.proofs.names.drop_names.Goals as goal
use Rattle.lk_bodies.proofs.Levels.{drop_one}

pub loop-i-preserved : goal.loop-i-preserved
loop-i-preserved o c = c.pop.ensures ∙ ap (drop 1) c.loop-i.invariant ∙ drop_one c.loop-i._i c.args.names.now
