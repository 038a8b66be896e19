use Rattle.std.proofs.Common.{[], arith, drop, refl, subst, sym, ◌≡◌, ◌∙◌, ◌+◌, ◌-◌}
use Rattle.lk_cps.proofs.Keeping.{looked_step}
use Rattle.lk_cps.proofs.Living.{drop_whole}
use Rattle.lk_cps.proofs.positions.look.Goals as goal
use Rattle.lk_cps.specs.Live.{LiveBehind}
use Rattle.lk_cps.specs.Steps.{HasLooked, LooksAt}
use Rattle.lk_ir.specs.declared.nodes.Forms.{Forms}

pub look_behind-requires : goal.look_behind-requires
look_behind-requires c = subst (λ (f : Forms). LiveBehind f c.args.form.now [] c.args.live) (sym c.forms.ensures) c.requires

pub loop-i-init : goal.loop-i-init
loop-i-init c = (
  subst (λ ns. HasLooked c.args.table.now c.args.form.now ns c.in_ok-looked.looked) (sym (drop_whole c.args.form.now.parts c.len-i.result c.len-i.ensures))
      (subst (λ (f : Forms). HasLooked f c.args.form.now [] c.in_ok-looked.looked) c.forms.ensures c.in_ok-looked.ensures),
  refl,
)

pub loop-i-preserved : goal.loop-i-preserved
loop-i-preserved c =
    let next : c.loop-i.i - 1 + 1 ≡ c.loop-i.i = omega arith in (
      looked_step c.args.table.now c.args.form.now (c.loop-i.i - 1) c.loop-i.i c.at.result.now c.loop-i.looked c.in_ok-looked-2.looked next c.at.ensures c.loop-i.invariant.0
          (subst (λ (f : Forms). LooksAt f c.at.result.now c.loop-i.looked c.in_ok-looked-2.looked) c.loop-i.invariant.1 c.in_ok-looked-2.ensures.step),
      c.look_at.ensures.table ∙ c.loop-i.invariant.1,
    )

pub returns-clause-looked : goal.returns-clause-looked
returns-clause-looked c =
    let done : c.loop-i.i ≡ 0 = omega arith in
    subst (λ n. HasLooked c.args.table.now c.args.form.now (drop n c.args.form.now.parts) c.loop-i.looked) done c.loop-i.invariant.0
