use Rattle.std.proofs.Common.{◌≡◌, take}
use Rattle.lk_unify.proofs.shared.same_fields.Given as goal

abbrev pub invariant-loop-i : goal.invariant-loop-i
invariant-loop-i l = take l.i l.left ≡ take l.i l.right
