use Rattle.std.proofs.Common.{◌≤◌, ◌-◌}
use Rattle.lk_unify.proofs.numbers.next_unused.Given as goal

abbrev pub invariant-up : goal.invariant-up
invariant-up l = l.from ≤ l.number

abbrev pub decreases-up : goal.decreases-up
decreases-up l = 4294967296 - l.number
