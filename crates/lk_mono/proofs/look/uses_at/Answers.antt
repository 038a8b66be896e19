use Rattle.std.proofs.Common.{◌+◌, ◌++◌, ap, drop, subst, sym, ◌∙◌}
use Rattle.std.specs.Option.{option_map}
use Rattle.lk_mono.proofs.Numbering.{no_more_use, one_more_numbered, one_more_use, setting_still, some_numbered}
use Rattle.lk_mono.proofs.NumbersGrown.{found_still, grows_on}
use Rattle.lk_mono.specs.Looks.{AreNumbered, as_found, as_uses, found_in}
use Rattle.lk_outline.specs.Shown.{shown}
use Rattle.lk_mono.proofs.look.uses_at.Goals as goal
use Rattle.lk_mono.proofs.look.uses_at.Goals.{in-Some+in_ok-push, in_default}

pub loop-site-preserved : goal.loop-site-preserved
loop-site-preserved c =
    let sites = c.args.sites.now in
    let i = c.loop-site.site-index in
    let site = c.site-item.result in
    let table = c.use_at.new.grounds in
    let still = found_still c.loop-site.grounds table c.use_at.ensures.more c.loop-site.uses c.loop-site.invariant.1 in
    let more = grows_on c.args.grounds.now c.loop-site.grounds table c.loop-site.invariant.2 c.use_at.ensures.more in
    elim c.match-branch-2.branch [
      | in-Some+in_ok-push w ↦ (
        λ ts is. one_more_use c.args.setting.own.now ts sites i site site c.loop-site.uses c.match-branch-2.uses w.in-Some.found c.loop-site-test.true c.site-item.is
            (ap (option_map as_found) (sym w.in-Some.is) ∙ c.in_ok-found.ensures.found ts (setting_still c.args.grounds.now c.loop-site.grounds c.loop-site.invariant.2 c.args.setting ts is))
            (w.uses-is ∙ w.in_ok-push.ensures.ok) (c.loop-site.invariant.0 ts is),
        one_more_numbered table c.loop-site.uses c.match-branch-2.uses w.in-Some.found (w.uses-is ∙ w.in_ok-push.ensures.ok) still (some_numbered table c.in_ok-found.field-0 w.in-Some.found w.in-Some.is c.in_ok-found.ensures.numbered),
        more,
      )
      | in_default w ↦ (
        λ ts is. ap (λ uses. as_uses uses ++ found_in c.args.setting.own.now ts (shown (drop (i + 1) sites))) w.uses-is
            ∙ no_more_use c.args.setting.own.now ts sites i site site c.loop-site.uses c.loop-site-test.true c.site-item.is
            (ap (option_map as_found) (sym w.in_default.is) ∙ c.in_ok-found.ensures.found ts (setting_still c.args.grounds.now c.loop-site.grounds c.loop-site.invariant.2 c.args.setting ts is))
            (c.loop-site.invariant.0 ts is),
        subst (AreNumbered table) (sym w.uses-is) still,
        more,
      )
    ]
