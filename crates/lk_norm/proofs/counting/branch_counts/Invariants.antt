use Rattle.std.proofs.Common.{drop}
use Rattle.lk_norm.proofs.Capped.{IsCounted}
use Rattle.lk_norm.proofs.counting.branch_counts.Given as goal

abbrev pub invariant-loop-part : goal.invariant-loop-part
invariant-loop-part l = IsCounted l.parts (drop l.part-index l.parts) l.found
