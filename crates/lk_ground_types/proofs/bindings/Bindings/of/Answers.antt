use Rattle.std.proofs.Common.{length}
use Rattle.lk_ground_types.proofs.Binding.{bound_same, least_kept}
use Rattle.lk_ground_types.proofs.bindings.Bindings.of.Goals as goal

pub returns-clause-least : goal.returns-clause-least
returns-clause-least c = least_kept _ _ _ _ (c.none-bindings.ensures.least c.args.grounds.now) c.in_ok-match_type.ensures.binds

pub returns-clause-same : goal.returns-clause-same
returns-clause-same c = bound_same _ _ _ _ (c.none-bindings.ensures.least c.args.grounds.now) c.in_ok-match_type.ensures.binds

pub returns-clause-within : goal.returns-clause-within
returns-clause-within c = c.in_ok-match_type.ensures.within c.requires (c.none-bindings.ensures.within (length c.args.grounds.now))
