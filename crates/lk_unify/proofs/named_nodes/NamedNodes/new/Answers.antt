use Rattle.lk_unify.proofs.NodesFound.{none_found}
use Rattle.lk_unify.proofs.named_nodes.NamedNodes.new.Goals as goal

pub returns : goal.returns
returns c x = none_found c.new.result.items c.new-2.result.entries c.new.ensures.items c.new-2.ensures.empty x
