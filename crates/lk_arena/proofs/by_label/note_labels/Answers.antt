use Rattle.std.proofs.Common.{arith, length}
use Rattle.lk_arena.proofs.Noted.{all_noted, none_noted, noted_more}
use Rattle.lk_arena.proofs.by_label.note_labels.Goals as goal

pub loop-i-init : goal.loop-i-init
loop-i-init c = none_noted c.args.labels.now c.args.fields.now (length c.args.fields.now) (omega arith)

pub loop-i-preserved : goal.loop-i-preserved
loop-i-preserved c =
    noted_more c.args.fields.now c.loop-i.i c.index-fields-i.result c.loop-i-test.true c.loop-i.auto.i c.index-fields-i.is c.loop-i.labels c.insert.new.self c.as_str.result c.as_str.ensures
    c.in_ok-insert.ensures.updates c.args.labels.now c.loop-i.invariant

pub returns : goal.returns
returns c = all_noted c.loop-i.labels c.args.labels.now c.args.fields.now c.loop-i.i c.loop-i-test.false c.loop-i.invariant
