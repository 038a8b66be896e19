use Rattle.lk_arena.proofs.merge.merge_nodes.Given as goal
use Rattle.lk_arena.specs.Measures.{weight}
use Rattle.lk_arena.specs.Steps.{Leads}

abbrev pub invariant-loop-pair : goal.invariant-loop-pair
invariant-loop-pair l = Leads l.left l.right l.fn.arena.shapes l.fn.arena.classes l.arena.shapes l.arena.classes l.queue

abbrev pub decreases-loop-pair : goal.decreases-loop-pair
decreases-loop-pair l = weight l.arena.shapes l.arena.classes
