use Rattle.lk_ground_types.proofs.PuttingFields.{one_before_put}
use Rattle.lk_ground_types.proofs.all_types.put_fields.Goals as goal

pub loop-i-preserved : goal.loop-i-preserved
loop-i-preserved c =
    one_before_put c.args.numbers.now c.args.fields.now c.loop-i.i c.index-fields-i.result _ c.args.row.now c.loop-i.row c.put.new.self c.number_at.result c.as_str.result.now
    c.loop-i-test.true c.loop-i.auto.i c.index-fields-i.is c.loop-i.invariant c.number_at.ensures c.as_str.ensures c.in_ok-put.ensures
