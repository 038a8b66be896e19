use Rattle.std.proofs.Common.{◌++◌, map, string_bytes, sym, ap, ◌∙◌, append-nil}
use Rattle.lk_operators.specs.Records.{fields_in_order}
use Rattle.lk_operators.specs.Values.{field}
use Rattle.lk_operators.proofs.Ascending.{fields-finite}
use Rattle.lk_operators.proofs.entries.Entries.into_fields.Goals as goal

pub returns : goal.returns
returns c =
    sym (append-nil c.loop-label.fields)
    ∙ ap (λ es. c.loop-label.fields ++ map (λ e. field (string_bytes e.0) e.1) es) (sym c.in-None.ensures.steps.0)
    ∙ c.loop-label.invariant
    ∙ ap (map (λ e. field (string_bytes e.0) e.1)) c.into_iter-label-iterator.ensures.into_iter_gives.0
    ∙ fields-finite c.self.inside.values.entries c.into_iter-label-iterator.ensures.into_iter_gives.5
    ∙ ap fields_in_order c.self.view_is
