use Rattle.std.proofs.Common.{◌++◌, map, string_bytes, sym, ap, ◌∙◌, append-nil}
use Rattle.lk_ground_types.proofs.StringRows.{part, parts_made}
use Rattle.lk_ground_types.specs.Grounds.{parts_in}
use Rattle.lk_ground_types.proofs.part_row.PartRow.into_parts.Goals as goal

pub returns : goal.returns
returns c =
    sym (append-nil c.loop-label.parts)
    ∙ ap (λ es. c.loop-label.parts ++ map (λ e. part (string_bytes e.0) e.1) es) (sym c.in-None.ensures.steps.0)
    ∙ c.loop-label.invariant
    ∙ ap (map (λ e. part (string_bytes e.0) e.1)) c.into_iter-label-iterator.ensures.into_iter_gives.0
    ∙ parts_made c.self.inside.parts.entries c.into_iter-label-iterator.ensures.into_iter_gives.5
    ∙ ap parts_in c.self.view_is
