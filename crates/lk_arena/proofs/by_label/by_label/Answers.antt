use Rattle.std.proofs.Common.{arith, length}
use Rattle.lk_arena.proofs.Noted.{all_nodes, no_nodes, nodes_more}
use Rattle.lk_arena.proofs.by_label.by_label.Goals as goal

pub loop-i-init : goal.loop-i-init
loop-i-init c = no_nodes c.new-nodes.result c.args.fields.now (length c.args.fields.now) c.new-nodes.ensures.empty (omega arith)

pub loop-i-preserved : goal.loop-i-preserved
loop-i-preserved c =
    nodes_more c.args.fields.now c.loop-i.i c.index-fields-i.result c.loop-i-test.true c.loop-i.auto.i c.index-fields-i.is c.loop-i.nodes c.insert.new.self c.as_str.result c.as_str.ensures
    c.in_ok-insert.ensures.updates c.loop-i.invariant

pub returns : goal.returns
returns c = all_nodes c.loop-i.nodes c.args.fields.now c.loop-i.i c.loop-i-test.false c.loop-i.invariant
