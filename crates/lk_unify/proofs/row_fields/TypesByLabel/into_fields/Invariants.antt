use Rattle.std.proofs.Common.{◌≡◌, ◌++◌, map}
use Rattle.lk_unify.proofs.LabelEntries.{entry_field}
use Rattle.lk_unify.proofs.row_fields.TypesByLabel.into_fields.Given as goal

abbrev pub invariant-loop-label : goal.invariant-loop-label
invariant-loop-label l = l.fields ++ map entry_field l.label-iterator ≡ map entry_field l.initial.label-iterator
