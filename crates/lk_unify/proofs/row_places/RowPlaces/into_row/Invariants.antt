use Rattle.std.proofs.Common.{◌≡◌, ◌++◌, map}
use Rattle.lk_unify.proofs.LabelEntries.{entry_place}
use Rattle.lk_unify.proofs.row_places.RowPlaces.into_row.Given as goal

abbrev pub invariant-loop-label : goal.invariant-loop-label
invariant-loop-label l = l.fields ++ map entry_place l.label-iterator ≡ map entry_place l.initial.label-iterator
