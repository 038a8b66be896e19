use Rattle.std.proofs.Common.{subst}
use Rattle.lk_ground_types.specs.Grounds.{AreDistinct}
use Rattle.lk_ground_types.proofs.grounds.Grounds.distinct.Goals as goal

pub returns : goal.returns
returns c = subst AreDistinct c.self.view_is c.self.invariant.distinct
