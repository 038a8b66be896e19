use Rattle.std.proofs.Common.{◌≡◌, take}
use Rattle.lk_ir.proofs.same.+same.Given as goal

abbrev pub invariant-same_types-loop-i : goal.invariant-same_types-loop-i
invariant-same_types-loop-i l = take l.i l.xs ≡ take l.i l.ys

abbrev pub invariant-same_fields-loop-i : goal.invariant-same_fields-loop-i
invariant-same_fields-loop-i l = take l.i l.xs ≡ take l.i l.ys
