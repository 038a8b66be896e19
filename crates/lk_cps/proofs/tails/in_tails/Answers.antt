use Rattle.std.proofs.Common.{[], arith, drop, refl, subst, sym, ◌≡◌, ◌∙◌, ◌+◌, ◌-◌}
use Rattle.lk_cps.proofs.Living.{drop_whole, tails_none, tails_step}
use Rattle.lk_cps.proofs.tails.in_tails.Goals as goal
use Rattle.lk_cps.specs.Live.{LiveAt, LiveInTails}
use Rattle.lk_ir.specs.Uses.{binds}
use Rattle.lk_ir.specs.declared.nodes.Forms.{Forms}

pub loop-i-init : goal.loop-i-init
loop-i-init c =
    let bs = drop c.len-i.result (binds c.args.form.now.kind) in (
      subst (LiveInTails c.args.table.now bs _) (sym c.new-live.ensures) (subst (λ ns. LiveInTails c.args.table.now bs ns []) (sym (drop_whole c.args.form.now.tails c.len-i.result c.len-i.ensures)) (tails_none c.args.table.now bs)),
      refl,
    )

pub loop-i-preserved : goal.loop-i-preserved
loop-i-preserved c =
    let next : c.loop-i.i - 1 + 1 ≡ c.loop-i.i = omega arith in (
      tails_step c.args.table.now c.args.form.now (c.loop-i.i - 1) c.loop-i.i c.at.result.now c.bound_by-bound.result c.in_ok-names.names c.without-own.result c.loop-i.live c.in_ok-live.live next c.at.ensures c.bound_by-bound.ensures
          (subst (λ (f : Forms). LiveAt f c.at.result.now c.in_ok-names.names) c.loop-i.invariant.1 c.in_ok-names.ensures.live) c.without-own.ensures c.in_ok-live.ensures c.loop-i.invariant.0,
      c.take.ensures.table ∙ c.loop-i.invariant.1,
    )

pub returns-clause-live : goal.returns-clause-live
returns-clause-live c =
    let done : c.loop-i.i ≡ 0 = omega arith in
    subst (λ n. LiveInTails c.args.table.now (drop n (binds c.args.form.now.kind)) (drop n c.args.form.now.tails) c.loop-i.live) done c.loop-i.invariant.0
