use Rattle.std.proofs.Common.{drop}
use Rattle.lk_cps.proofs.needs.kept_names.Given as goal
use Rattle.lk_cps.specs.Live.{LiveKept}
use Rattle.lk_ir.specs.declared.nodes.Forms.{Forms}

abbrev pub invariant-loop-i : goal.invariant-loop-i
invariant-loop-i l = (f : Forms) → LiveKept f (drop l.i l.kept) l.live
