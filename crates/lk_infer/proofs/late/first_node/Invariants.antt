use Rattle.std.specs.Prelude.{take}
use Rattle.lk_infer.specs.Walked.{NoNodes}
use Rattle.lk_infer.proofs.late.first_node.Given as goal

abbrev pub invariant-loop-n : goal.invariant-loop-n
invariant-loop-n l = NoNodes (take l.n l.steps)
