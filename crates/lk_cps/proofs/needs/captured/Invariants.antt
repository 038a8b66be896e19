use Rattle.std.proofs.Common.{drop}
use Rattle.lk_cps.proofs.needs.captured.Given as goal
use Rattle.lk_cps.specs.Live.{LiveCaptured}

abbrev pub invariant-loop-i : goal.invariant-loop-i
invariant-loop-i l = LiveCaptured l.table l.label (drop l.i l.names) l.live
