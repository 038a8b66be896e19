use Rattle.lk_ground_types.proofs.EntriesMade.{function_counted}
use Rattle.lk_ground_types.proofs.entries.count_function.Goals as goal

pub returns : goal.returns
returns c = function_counted _ _ _ _ _ _ _ c.count_types-with_params.ensures c.add-with_effects.ensures c.nodes_at-nodes.ensures c.add.ensures
