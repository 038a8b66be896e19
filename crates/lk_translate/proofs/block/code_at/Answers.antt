use Rattle.lk_sites.specs.SiteSeen.{shown}
use Rattle.lk_translate.proofs.Faults.{site_made, too_many}
use Rattle.lk_translate.proofs.block.code_at.Goals as goal

pub returns-in-Ok : goal.returns-in-Ok
returns-in-Ok c =
    let g = c.args.inliner.now in
    site_made g.program.now g.helpers (shown c.args.site.now) c.in-Ok.inlined c.inlined_code.result c.in-Ok.ensures.inlined c.in-Ok.ensures.counted c.inlined_code.ensures

pub returns-in-Err-TooManyNodes : goal.returns-in-Err-TooManyNodes
returns-in-Err-TooManyNodes c =
    let g = c.args.inliner.now in
    too_many g.program.now g.helpers (shown c.args.site.now) (c.in-Err-TooManyNodes.ensures.too_many c.in-Err-TooManyNodes.field-0-is)
