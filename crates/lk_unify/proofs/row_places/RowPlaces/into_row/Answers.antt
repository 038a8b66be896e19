use Rattle.std.proofs.Common.{◌++◌, map, sym, ap, ◌∙◌, append-nil}
use Rattle.std.specs.FinMap as finite
use Rattle.lk_unify.proofs.LabelEntries.{entry_place, places_made}
use Rattle.lk_unify.proofs.row_places.RowPlaces.into_row.Goals as goal
use Rattle.lk_unify.specs.Levels.{place_field}

pub returns : goal.returns
returns c =
    let all =
    sym (append-nil c.loop-label.fields)
    ∙ ap (λ es. c.loop-label.fields ++ map entry_place es) (sym c.in-None.ensures.steps.0)
    ∙ c.loop-label.invariant
    ∙ ap (map entry_place) c.into_iter-label-iterator.ensures.into_iter_gives.0
    ∙ places_made c.self.inside.places.entries c.into_iter-label-iterator.ensures.into_iter_gives.5
    ∙ ap (λ places. map place_field (finite.entries places)) c.self.view_is in
    λ i. record { fields = all i; tail = c.args.tail }
