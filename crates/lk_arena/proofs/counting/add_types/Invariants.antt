use Rattle.std.proofs.Common.{◌≡◌, ◌+◌, drop}
use Rattle.lk_arena.proofs.counting.add_types.Given as goal
use Rattle.lk_arena.specs.Counting.{count_at, saturated, type_sum}

abbrev pub invariant-loop-ty : goal.invariant-loop-ty
invariant-loop-ty l = record {
  small : saturated l.total ≡ l.total;
  sum : saturated (l.total + type_sum (count_at l.classes l.counts) (drop l.ty-index l.types)) ≡ saturated (l.start + type_sum (count_at l.classes l.counts) l.types);
}
