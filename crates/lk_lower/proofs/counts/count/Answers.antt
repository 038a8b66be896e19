use Rattle.lk_lower.proofs.Counting.{fewer_there, one_counted, one_used, shown_last}
use Rattle.lk_lower.proofs.counts.count.Goals as goal
use Rattle.lk_lower.specs.Walked.{shown}

pub loop-e-preserved : goal.loop-e-preserved
loop-e-preserved c =
    let last = shown_last c.loop-e.waiting c.pop.new.self c.in-Some.e c.in-Some.ensures in (
      one_counted (shown c.loop-e.waiting) (shown c.pop.new.self) (shown c.count_one.new.waiting) c.in-Some.e.now c.loop-e.counts.nodes _ _ last c.in_ok-counts.ensures.inside c.in_ok-counts.ensures.nodes c.loop-e.invariant.0,
      one_used (shown c.loop-e.waiting) (shown c.pop.new.self) (shown c.count_one.new.waiting) c.in-Some.e.now c.loop-e.counts.uses _ _ last c.in_ok-counts.ensures.inside c.in_ok-counts.ensures.uses c.loop-e.invariant.1,
    )

pub loop-e-smaller : goal.loop-e-smaller
loop-e-smaller c = fewer_there (shown c.loop-e.waiting) (shown c.pop.new.self) (shown c.count_one.new.waiting) c.in-Some.e.now (shown_last c.loop-e.waiting c.pop.new.self c.in-Some.e c.in-Some.ensures) c.in_ok-counts.ensures.inside
