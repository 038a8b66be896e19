use Rattle.std.proofs.Common.{sym, ap, ◌∙◌}
use Rattle.std.specs.List.{list_any}
use Rattle.lk_mono.specs.Flatness.{is_odd_name}
use Rattle.lk_mono.proofs.Behind.{any_behind}
use Rattle.lk_mono.proofs.shapes.captures_odd.Goals as goal
use Rattle.lk_outline.specs.Outline.{Site}
use Rattle.lk_outline.specs.Shown.{shown_site}
use Rattle.lk_outline.specs.declared.site.Site.{Site as TheSite}

pub returns : goal.returns
returns c =
    c.has_odd_name.ensures
    ∙ (ap (list_any (λ (x : TheSite). is_odd_name c.args.types.now c.args.number (shown_site x) (shown_site x).kind)) c.sites_behind.ensures
    ∙ sym (any_behind (λ (s : Site). is_odd_name c.args.types.now c.args.number s s.kind) shown_site c.args.number c.args.nodes c.args.sites.now))
