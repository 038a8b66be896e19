use Rattle.lk_ground_types.proofs.EntriesMade.{none_nodes}
use Rattle.lk_ground_types.proofs.entries.nodes_at.Goals as goal

pub returns-in-None : goal.returns-in-None
returns-in-None c = none_nodes c.args.entries.now c.args.number c.in-None.ensures.lookup.3
