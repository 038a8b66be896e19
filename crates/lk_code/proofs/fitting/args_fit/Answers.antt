use Rattle.std.proofs.Common.{rules, ◌≡◌, ◌<◌, ◌∙◌, ap, refl, subst, sym, drop, length, take, true, false}
use Rattle.lk_fits.specs.Values.{FitEach}
use Rattle.lk_code.proofs.Arguments.{first_fit, rest_fit, together, too_few}
use Rattle.lk_code.proofs.fitting.args_fit.Goals as goal

pub returns-then-args-len : goal.returns-then-args-len
returns-then-args-len c = (λ never. (let wrong : false ≡ true = never in cc), λ fit. absurd (too_few _ c.args.args.now c.args.info.now.env c.args.info.now.params (let e : length c.args.args.now < length c.args.info.now.env = search rules in e) fit))

pub returns-then-each_fits : goal.returns-then-each_fits
returns-then-each_fits c =
    let kept : c.split_at.result.0.now ≡ take (length c.args.info.now.env) c.args.args.now = search rules in
    let passed : c.split_at.result.1.now ≡ drop (length c.args.info.now.env) c.args.args.now = search rules in (
      λ yes. together _ c.args.args.now c.args.info.now.env c.args.info.now.params c.split_at.result.0.now c.split_at.result.1.now kept passed
          (subst (FitEach _ c.split_at.result.0.now) c.as_slice.ensures (c.if-each_fits.ensures.0 refl))
          (subst (FitEach _ c.split_at.result.1.now) c.as_slice-then-each_fits.ensures (c.each_fits-then-each_fits.ensures.0 yes)),
      λ fit. c.each_fits-then-each_fits.ensures.1 (subst (FitEach _ c.split_at.result.1.now) (sym c.as_slice-then-each_fits.ensures)
          (rest_fit _ c.args.args.now c.args.info.now.env c.args.info.now.params c.split_at.result.0.now c.split_at.result.1.now kept passed fit)),
    )

pub returns-else-each_fits : goal.returns-else-each_fits
returns-else-each_fits c =
    let kept : c.split_at.result.0.now ≡ take (length c.args.info.now.env) c.args.args.now = search rules in
    let passed : c.split_at.result.1.now ≡ drop (length c.args.info.now.env) c.args.args.now = search rules in (
      λ yes. absurd (let wrong : false ≡ true = sym c.if-each_fits.false ∙ yes in cc),
      λ fit. c.each_fits.ensures.1 (subst (FitEach _ c.split_at.result.0.now) (sym c.as_slice.ensures)
          (first_fit _ c.args.args.now c.args.info.now.env c.args.info.now.params c.split_at.result.0.now c.split_at.result.1.now kept passed fit)),
    )
