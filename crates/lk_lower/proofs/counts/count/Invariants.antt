use Rattle.std.proofs.Common.{◌≡◌, ◌+◌}
use Rattle.lk_lower.specs.Children.{nodes_of, uses_of}
use Rattle.lk_lower.specs.Walked.{shown}
use Rattle.lk_lower.proofs.counts.count.Given as goal

abbrev pub invariant-loop-e : goal.invariant-loop-e
invariant-loop-e l = (l.counts.nodes + nodes_of (shown l.waiting) ≡ nodes_of (shown l.initial.waiting)) × (l.counts.uses + uses_of (shown l.waiting) ≡ uses_of (shown l.initial.waiting))

abbrev pub decreases-loop-e : goal.decreases-loop-e
decreases-loop-e l = nodes_of (shown l.waiting)
