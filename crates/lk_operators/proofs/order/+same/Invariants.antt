use Rattle.std.proofs.Common.{◌≡◌, drop, map}
use Rattle.lk_operators.specs.Order.{all_pass, same, same_fields}
use Rattle.lk_operators.proofs.order.+same.Given as goal

abbrev pub invariant-same_values-loop-i : goal.invariant-same_values-loop-i
invariant-same_values-loop-i l = all_pass (map same l.xs) l.ys ≡ all_pass (map same (drop l.i l.xs)) (drop l.i l.ys)

abbrev pub invariant-same_fields-loop-i : goal.invariant-same_fields-loop-i
invariant-same_fields-loop-i l = all_pass (map same_fields l.xs) l.ys ≡ all_pass (map same_fields (drop l.i l.xs)) (drop l.i l.ys)
