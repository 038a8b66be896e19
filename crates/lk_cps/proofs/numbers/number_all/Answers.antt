use Rattle.std.proofs.Common.{List, subst, sym}
use Rattle.lk_cps.proofs.Numbering.{AreNumbering, all_first, all_last, all_more}
use Rattle.lk_cps.proofs.numbers.number_all.Goals as goal
use Rattle.lk_ir.specs.declared.nodes.Conts.{Conts}

pub loop-of-init : goal.loop-of-init
loop-of-init c = subst (λ (all : List Conts). AreNumbering c.args.backwards c.args.backwards 0 all) (sym c.new-all.ensures) (all_first c.args.backwards)

pub loop-of-preserved : goal.loop-of-preserved
loop-of-preserved c =
    all_more c.args.backwards c.loop-of.backwards c.pop.new.self c.loop-of.next c.number_node.new.next c.loop-of.all c.push.new.self c.in-Some.of c.in_ok-conts.conts
    c.loop-of.invariant c.in-Some.ensures c.in_ok-conts.ensures c.in_ok-push.ensures.ok

pub returns : goal.returns
returns c = all_last c.args.backwards c.loop-of.backwards c.loop-of.next c.loop-of.all c.in_default.ensures.0 c.loop-of.invariant
