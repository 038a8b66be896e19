use Rattle.lk_lower.specs.Children.{nodes_of}
use Rattle.lk_lower.specs.Walked.{shown}
use Rattle.lk_lower.proofs.names.bound_in.Given as goal

abbrev pub decreases-loop-e : goal.decreases-loop-e
decreases-loop-e l = nodes_of (shown l.waiting)
