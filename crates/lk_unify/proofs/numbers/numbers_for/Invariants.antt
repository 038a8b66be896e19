use Rattle.lk_unify.proofs.Numbering.{IsNumbered}
use Rattle.lk_unify.proofs.numbers.numbers_for.Given as goal

abbrev pub invariant-loop-node : goal.invariant-loop-node
invariant-loop-node l = IsNumbered l.loader l.numbers.items l.node l.next
