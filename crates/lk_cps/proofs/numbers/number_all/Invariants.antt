use Rattle.std.proofs.Common.{length}
use Rattle.lk_cps.proofs.Numbering.{AreNumbering}
use Rattle.lk_cps.proofs.numbers.number_all.Given as goal

abbrev pub invariant-loop-of : goal.invariant-loop-of
invariant-loop-of l = AreNumbering l.initial.backwards l.backwards l.next l.all

abbrev pub decreases-loop-of : goal.decreases-loop-of
decreases-loop-of l = length l.backwards
