use Rattle.lk_unify.proofs.LabelEntries.{none_made}
use Rattle.lk_unify.proofs.row_places.RowPlaces.new.Goals as goal

pub returns : goal.returns
returns c = none_made _ c.new.ensures.empty
