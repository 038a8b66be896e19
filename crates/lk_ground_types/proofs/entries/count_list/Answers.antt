use Rattle.lk_ground_types.proofs.EntriesMade.{capped_after}
use Rattle.lk_ground_types.proofs.entries.count_list.Goals as goal

pub returns : goal.returns
returns c = capped_after 1 _ _ _ c.nodes_at-nodes.ensures c.add.ensures
