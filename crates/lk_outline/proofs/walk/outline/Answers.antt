use Rattle.std.proofs.Common.{ap, ap₂, ◌∙◌, false}
use Rattle.lk_outline.specs.Outline.{outline, with_names}
use Rattle.lk_outline.specs.Shown.{shown}
use Rattle.lk_outline.specs.Walked.{put, seen}
use Rattle.lk_outline.specs.declared.site.Around.TheVariants as around
use Rattle.lk_outline.proofs.walk.outline.Goals as goal

pub returns : goal.returns
unfolding put
returns c =
    c.in_ok-expr.ensures.sites
    ∙ ap₂ (λ scope found. put (outline c.args.function.now.body) (seen (record { around = around.Function; inside = false }) scope) found)
    (c.in_ok-push_names.ensures ∙ ap₂ (λ params scope. with_names params 0 scope) c.as_slice.ensures c.new-scope.ensures)
    (ap shown c.new-sites.ensures)
