use Rattle.lk_lower.proofs.Counting.{fewer_entered, shown_last}
use Rattle.lk_lower.proofs.names.bound_in.Goals as goal
use Rattle.lk_lower.specs.Walked.{shown}

pub loop-e-smaller : goal.loop-e-smaller
loop-e-smaller c = fewer_entered (shown c.loop-e.waiting) (shown c.pop.new.self) c.in-Some.e.now _ (shown_last c.loop-e.waiting c.pop.new.self c.in-Some.e c.in-Some.ensures) c.in_ok-enter.ensures
