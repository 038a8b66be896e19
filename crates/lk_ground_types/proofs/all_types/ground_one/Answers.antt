use Rattle.lk_ground_types.proofs.OnlyType.{first_is, first_there, first_within}
use Rattle.lk_ground_types.specs.Bound.{grounding_in}
use Rattle.lk_ground_types.proofs.all_types.ground_one.Goals as goal

pub at-requires : goal.at-requires
at-requires c = first_there _ _ _ c.in_ok-types.ensures c.in_ok-numbers.ensures.count

pub returns-clause-made : goal.returns-clause-made
returns-clause-made c t is = first_is _ (grounding_in c.args.grounds.now c.args.bindings.now) _ _ t _ _ c.in_ok-types.ensures c.in_ok-numbers.ensures.made is c.at.ensures

pub returns-clause-within : goal.returns-clause-within
returns-clause-within c = first_within _ _ _ c.in_ok-numbers.ensures.within c.at.ensures
