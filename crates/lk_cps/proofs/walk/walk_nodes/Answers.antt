use Rattle.std.proofs.Common.{[], ap, arith, drop, length, refl, subst, sym, ◌≡◌, ◌∙◌, ◌+◌, ◌-◌, ◌<◌, List, Option}
use Rattle.lk_cps.proofs.Keeping.{node_step}
use Rattle.lk_cps.proofs.Living.{drop_whole}
use Rattle.lk_cps.proofs.walk.walk_nodes.Goals as goal
use Rattle.lk_cps.specs.Live.{AllConts, forward}
use Rattle.lk_cps.specs.Steps.{AreContsOf}
use Rattle.lk_ir.specs.declared.nodes.Cont.{Cont}
use Rattle.lk_ir.specs.declared.nodes.Forms.{Forms}

pub loop-number-init : goal.loop-number-init
loop-number-init c =
    let f = c.args.table.now in
    let count : c.len-number.result ≡ length f.nodes = c.len-number.ensures ∙ ap (λ (g : Forms). length g.nodes) c.forms.ensures in (
      subst (λ forms. AllConts f forms (forward c.new-all.result)) (sym (drop_whole f.nodes c.len-number.result count)) (subst (λ (all : List (List (Option Cont))). AllConts f [] (forward all)) (sym c.new-all.ensures) tt),
      refl,
    )

pub node-requires : goal.node-requires
node-requires c =
    let count : c.len-number.result ≡ length c.args.table.now.nodes = c.len-number.ensures ∙ ap (λ (g : Forms). length g.nodes) c.forms.ensures in
    let less : c.loop-number.number - 1 < length c.args.table.now.nodes = omega (arith, count) in
    subst (λ (f : Forms). c.loop-number.number - 1 < length f.nodes) (sym c.loop-number.invariant.1) less

pub loop-number-preserved : goal.loop-number-preserved
loop-number-preserved c =
    let next : c.loop-number.number - 1 + 1 ≡ c.loop-number.number = omega arith in (
      node_step c.args.table.now (c.loop-number.number - 1) c.loop-number.number c.in_ok-of.of c.loop-number.all c.push.new.self next c.in_ok-push.ensures.ok
          (subst (λ (f : Forms). AreContsOf f (c.loop-number.number - 1) c.in_ok-of.of) c.loop-number.invariant.1 c.in_ok-of.ensures.conts) c.loop-number.invariant.0,
      c.node.ensures.table ∙ c.loop-number.invariant.1,
    )

pub returns-clause-conts : goal.returns-clause-conts
returns-clause-conts c =
    let done : c.loop-number.number ≡ 0 = omega arith in
    subst (λ n. AllConts c.args.table.now (drop n c.args.table.now.nodes) (forward c.loop-number.all)) done c.loop-number.invariant.0
