use Rattle.std.proofs.Common.{length}
use Rattle.lk_cps.proofs.Numbering.{IsNumbering}
use Rattle.lk_cps.proofs.numbers.number_node.Given as goal

abbrev pub invariant-loop-cont : goal.invariant-loop-cont
invariant-loop-cont l = IsNumbering l.initial.next l.initial.backwards l.backwards l.next l.of

abbrev pub decreases-loop-cont : goal.decreases-loop-cont
decreases-loop-cont l = length l.backwards
