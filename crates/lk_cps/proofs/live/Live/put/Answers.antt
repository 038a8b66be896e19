use Rattle.std.proofs.Common.{subst}
use Rattle.lk_cps.proofs.Entries.{put_there}
use Rattle.lk_cps.proofs.live.Live.put.Goals as goal
use Rattle.lk_cps.specs.Live.{Live, Puts}

pub returns : goal.returns
returns c = subst (λ (es : Live). Puts es c.args.name c.args.ty c.insert.new.self.entries) c.self.view_is (put_there c.args.name c.args.ty c.self.inside.types c.insert.new.self c.in_ok-insert.ensures.updates)
