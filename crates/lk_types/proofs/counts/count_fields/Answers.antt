use Rattle.std.proofs.Common.{subst}
use Rattle.lk_types.proofs.Built.{part_below}
use Rattle.lk_types.proofs.Counted.{count_more, count_one}
use Rattle.lk_types.proofs.counts.count_fields.Goals as goal
use Rattle.lk_types.specs.Counts.{part_nodes, IsCount}
use Rattle.lk_types.specs.Levels.{at}
use Rattle.lk_types.specs.Sizes.{nodes}

pub bounds-counts-field : goal.bounds-counts-field
bounds-counts-field c = part_below c.args.fields.now _ c.loop-field.field-index c.field-item.result c.requires c.loop-field-test.true c.field-item.is

pub loop-field-preserved : goal.loop-field-preserved
loop-field-preserved c = λ ts are.
    let below = part_below c.args.fields.now _ c.loop-field.field-index c.field-item.result c.requires c.loop-field-test.true c.field-item.is in
    count_more (part_nodes ts) c.args.fields.now c.loop-field.field-index c.loop-field.total (c.loop-field.invariant ts are) c.field-item.result _ _ c.loop-field-test.true c.both-total.ensures
    (subst (λ f. IsCount c.both.result (part_nodes ts f)) c.field-item.is (c.both.ensures 1 (nodes (at ts c.field-item.result.part)) count_one (are c.field-item.result.part below)))
