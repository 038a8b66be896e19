use Rattle.std.proofs.Common.{◌++◌, map, sym, ap, ◌∙◌, append-nil}
use Rattle.std.specs.FinMap as finite
use Rattle.lk_arena.specs.Openings.{field_type}
use Rattle.lk_unify.proofs.LabelEntries.{entry_field, fields_made}
use Rattle.lk_unify.proofs.row_fields.TypesByLabel.into_fields.Goals as goal

pub returns : goal.returns
returns c =
    sym (append-nil c.loop-label.fields)
    ∙ ap (λ es. c.loop-label.fields ++ map entry_field es) (sym c.in-None.ensures.steps.0)
    ∙ c.loop-label.invariant
    ∙ ap (map entry_field) c.into_iter-label-iterator.ensures.into_iter_gives.0
    ∙ fields_made c.self.inside.types.entries c.into_iter-label-iterator.ensures.into_iter_gives.5
    ∙ ap (λ types. map field_type (finite.entries types)) c.self.view_is
