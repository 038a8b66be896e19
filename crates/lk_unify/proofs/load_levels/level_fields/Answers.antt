use Rattle.lk_types.proofs.Built.{part_below}
use Rattle.lk_unify.proofs.load_levels.level_fields.Goals as goal

pub bounds-nodes-field : goal.bounds-nodes-field
bounds-nodes-field c = part_below c.args.fields.now _ c.loop-field.field-index c.field-item.result c.requires c.loop-field-test.true c.field-item.is
