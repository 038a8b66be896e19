use Rattle.std.proofs.Common.{arith, length}
use Rattle.lk_types.proofs.Built.{part_below}
use Rattle.lk_types.proofs.marks.mark_fields.Goals as goal

pub index_mut-requires : goal.index_mut-requires
index_mut-requires c =
    let below = part_below c.args.fields.now (length c.args.marks.now.items) c.loop-field.field-index c.field-item.result c.requires c.loop-field-test.true c.field-item.is in
    omega (arith, c.loop-field.marks.ok.0)
