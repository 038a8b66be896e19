use Rattle.std.proofs.Common.{◌∙◌, ap}
use Rattle.std.specs.FinMap as finite
use Rattle.lk_unify.proofs.LabelEntries.{put_made}
use Rattle.lk_unify.proofs.row_places.RowPlaces.put.Goals as goal

pub returns : goal.returns
returns c =
    put_made c.self.inside.places.entries c.insert.new.self.entries c.args.label c.args.place c.in_ok-insert.ensures.was_ordered c.in_ok-insert.ensures.ordered c.in_ok-insert.ensures.entries
    ∙ ap (λ places. finite.insert places c.args.label c.args.place) c.self.view_is
