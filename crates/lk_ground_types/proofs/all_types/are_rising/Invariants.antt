use Rattle.std.proofs.Common.{drop}
use Rattle.lk_ground_types.specs.Becoming.{AreRising}
use Rattle.lk_ground_types.proofs.all_types.are_rising.Given as goal

abbrev pub invariant-loop-i : goal.invariant-loop-i
invariant-loop-i l = AreRising (drop l.i l.fields)
