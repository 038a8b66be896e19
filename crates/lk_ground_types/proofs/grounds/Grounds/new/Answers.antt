use Rattle.lk_ground_types.proofs.Entering.{none_entered}
use Rattle.lk_ground_types.proofs.grounds.Grounds.new.Goals as goal

pub invariant_of-result : goal.invariant_of-result
invariant_of-result c = none_entered _ _ c.new.ensures.items c.new-2.ensures
