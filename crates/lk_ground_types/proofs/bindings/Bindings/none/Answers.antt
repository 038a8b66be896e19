use Rattle.lk_ground_types.proofs.Tables.{bound_none, within_none}
use Rattle.lk_ground_types.proofs.bindings.Bindings.none.Goals as goal

pub returns-clause-least : goal.returns-clause-least
returns-clause-least c = bound_none _ c.new.ensures.empty c.new-2.ensures.empty c.new-3.ensures.empty

pub returns-clause-within : goal.returns-clause-within
returns-clause-within c k = within_none k _ c.new.ensures.empty c.new-2.ensures.empty
