use Rattle.std.proofs.Common.{refl}
use Rattle.lk_ground_types.proofs.Counts.{count_more}
use Rattle.lk_ground_types.proofs.EntriesMade.{capped_after, one_capped, types_counted}
use Rattle.lk_ground_types.specs.Grounds.{at, types_of}
use Rattle.lk_ground_types.specs.Sizes.{ground_nodes}
use Rattle.lk_ground_types.proofs.entries.count_types.Goals as goal

pub loop-number-init : goal.loop-number-init
loop-number-init c = one_capped

pub loop-number-preserved : goal.loop-number-preserved
loop-number-preserved c =
    count_more ((λ n. ground_nodes (at (types_of c.args.entries.now) n))) c.args.numbers.now 1 c.loop-number.number-index _ 0 _ _ c.loop-number-test.true refl c.loop-number.invariant
    (capped_after _ _ _ _ c.nodes_at-nodes.ensures c.add-total.ensures)

pub returns : goal.returns
returns c = types_counted (types_of c.args.entries.now) c.args.numbers.now c.loop-number.number-index c.loop-number.total c.loop-number-test.false c.loop-number.invariant
