use Rattle.std.proofs.Common.{◌≡◌, ◌+◌, drop}
use Rattle.lk_arena.proofs.counting.add_fields.Given as goal
use Rattle.lk_arena.specs.Counting.{count_at, field_sum, saturated}

abbrev pub invariant-loop-field : goal.invariant-loop-field
invariant-loop-field l = record {
  small : saturated l.total ≡ l.total;
  sum : saturated (l.total + field_sum (count_at l.classes l.counts) (drop l.field-index l.fields)) ≡ saturated (l.start + field_sum (count_at l.classes l.counts) l.fields);
}
