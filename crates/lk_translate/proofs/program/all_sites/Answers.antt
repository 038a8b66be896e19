use Rattle.std.proofs.Common.{◌≡◌, [], ◌∷◌, ◌++◌, ◌+◌, Some, Err, ap, map, subst, sym, take}
use Rattle.lk_sites.specs.SiteSeen.{shown}
use Rattle.lk_translate.proofs.Faults.{first_refused, one_more, shown_more, shown_whole}
use Rattle.lk_translate.specs.Translation.{first_fault}
use Rattle.lk_translate.specs.Tried.{AreMade}
use Rattle.lk_translate.specs.declared.error.TranslateError.TheVariants as errors
use Rattle.lk_translate.proofs.program.all_sites.Goals as goal

pub returns-in-Err-clause-too_large : goal.returns-in-Err-clause-too_large
returns-in-Err-clause-too_large c size at is =
    let g = c.args.inliner.now in
    let same : c.in-Err.error ≡ errors.TooLarge size at = cc in
    subst (λ sites. first_fault g.program.now g.helpers sites ≡ Some (size, at)) (sym (shown_whole shown c.args.sites.now c.loop-site.site-index c.site-item.result c.loop-site-test.true c.site-item.is))
    (first_refused g _ (shown c.site-item.result) _ c.loop-site.all (size, at) c.loop-site.invariant (c.in-Err.ensures.too_large size at (ap Err same)))

pub loop-site-preserved : goal.loop-site-preserved
loop-site-preserved c =
    let g = c.args.inliner.now in
    subst (AreMade g (map shown (take (c.loop-site.site-index + 1) c.args.sites.now))) (sym c.in_ok-push-in-Ok.ensures.ok)
    (subst (λ sites. AreMade g sites (c.loop-site.all ++ c.in-Ok.one ∷ [])) (sym (shown_more shown c.args.sites.now c.loop-site.site-index c.site-item.result c.loop-site-test.true c.site-item.is))
    (one_more g _ (shown c.site-item.result) c.loop-site.all c.in-Ok.one c.loop-site.invariant c.in-Ok.ensures.translated))
