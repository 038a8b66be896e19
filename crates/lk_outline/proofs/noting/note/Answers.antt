use Rattle.std.proofs.Common.{ap, sym, ◌∙◌, ◌∷◌, ◌++◌, []}
use Rattle.std.proofs.lemmas.List.{map-append, length-map}
use Rattle.std.proofs.lemmas.Result.{on_ok_weaker}
use Rattle.lk_outline.specs.Shown.{shown, shown_kind, shown_site}
use Rattle.lk_outline.specs.Walked.{noted, noted_site}
use Rattle.lk_outline.proofs.noting.note.Goals as goal

pub returns : goal.returns
unfolding noted
returns c = on_ok_weaker c.push.result
    (λ more. ap shown more
    ∙ map-append shown_site c.args.sites.now _
    ∙ ap (λ one. shown c.args.sites.now ++ one ∷ []) (c.site.ensures ∙ ap (noted_site c.args.span (shown_kind c.args.kind) c.args.round) (c.len-number.ensures ∙ sym (length-map c.args.sites.now shown_site))))
    c.push.ensures.ok
