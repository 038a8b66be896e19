use Rattle.lk_ground_types.proofs.Counts.{count_more}
use Rattle.lk_ground_types.proofs.EntriesMade.{one_capped, part_counted, part_nodes, parts_counted}
use Rattle.lk_ground_types.specs.Grounds.{types_of}
use Rattle.lk_ground_types.proofs.entries.count_parts.Goals as goal

pub loop-part-init : goal.loop-part-init
loop-part-init c = one_capped

pub loop-part-preserved : goal.loop-part-preserved
loop-part-preserved c =
    count_more (part_nodes (types_of c.args.entries.now)) c.args.parts.now 1 _ c.part-item.result _ _ _ c.loop-part-test.true c.part-item.is c.loop-part.invariant
    (part_counted _ _ _ _ _ c.add-with_label.ensures c.nodes_at-nodes.ensures c.add-total.ensures)

pub returns : goal.returns
returns c = parts_counted (types_of c.args.entries.now) c.args.parts.now c.loop-part.part-index c.loop-part.total c.loop-part-test.false c.loop-part.invariant
