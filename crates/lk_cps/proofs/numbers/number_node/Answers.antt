use Rattle.std.proofs.Common.{List, Option, subst, sym}
use Rattle.lk_cps.proofs.Numbering.{IsNumbering, numbering_first, numbering_last, numbering_more}
use Rattle.lk_cps.proofs.numbers.number_node.Goals as goal
use Rattle.lk_ir.specs.declared.nodes.Cont.{Cont}

pub loop-cont-init : goal.loop-cont-init
loop-cont-init c = subst (λ (of : List (Option Cont)). IsNumbering c.args.next.now c.args.backwards c.args.backwards c.args.next.now of) (sym c.new-of.ensures) (numbering_first c.args.next.now c.args.backwards)

pub loop-cont-preserved : goal.loop-cont-preserved
loop-cont-preserved c =
    numbering_more c.args.next.now c.args.backwards c.loop-cont.backwards c.pop.new.self c.loop-cont.next c.number_one.new.next c.loop-cont.of c.push.new.self c.in-Some.cont c.in_ok-numbered.numbered
    c.loop-cont.invariant c.in-Some.ensures c.in_ok-numbered.ensures c.in_ok-push.ensures.ok

pub returns : goal.returns
returns c = numbering_last c.args.next.now c.args.backwards c.loop-cont.backwards c.loop-cont.next c.loop-cont.of c.in_default.ensures.0 c.loop-cont.invariant
