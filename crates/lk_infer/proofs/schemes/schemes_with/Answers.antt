use Rattle.std.proofs.Common.{ap, sym, ◌∙◌}
use Rattle.std.specs.Prelude.{slice_get}
use Rattle.lk_infer.proofs.LevelsShown.{scheme_more}
use Rattle.lk_infer.proofs.schemes.schemes_with.Goals as goal

pub loop-number-preserved : goal.loop-number-preserved
loop-number-preserved c =
    scheme_more c.args.all.now c.args.bodies.now c.loop-number.number c.of-body.result c.loop-number.schemes _ _ (ap (λ ts. slice_get ts c.loop-number.number) (sym c.in_ok-share.ensures) ∙ c.of-body.ensures) c.loop-number.invariant
    c.in_ok-scheme_of.ensures c.in_ok-push.ensures.ok
