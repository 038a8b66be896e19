use Rattle.std.proofs.Common.{◌≡◌}
use Rattle.std.specs.Vec.Iter.{into_iter_items}
use Rattle.lk_operators.specs.Records.{with_fields}
use Rattle.lk_operators.proofs.entries.Entries.from_fields.Given as goal

abbrev pub invariant-loop-field : goal.invariant-loop-field
invariant-loop-field l = with_fields l.entries (into_iter_items l.field-iterator) ≡ with_fields l.initial.entries (into_iter_items l.initial.field-iterator)
