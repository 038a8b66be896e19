use Rattle.std.proofs.Common.{length, ◌-◌}
use Rattle.lk_parse.proofs.Passes.{IsAt}
use Rattle.lk_parse.proofs.scan.read.Given as goal

abbrev pub invariant-loop-at : goal.invariant-loop-at
invariant-loop-at l = IsAt l.text l.tokens l.at

abbrev pub decreases-loop-at : goal.decreases-loop-at
decreases-loop-at l = length l.text - l.at
