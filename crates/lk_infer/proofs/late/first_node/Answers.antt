use Rattle.std.proofs.Common.{◌∙◌, sym}
use Rattle.lk_infer.proofs.LateSteps.{first_node_at}
use Rattle.lk_infer.proofs.late.first_node.Goals as goal

pub returns-then-is_node-clause-first : goal.returns-then-is_node-clause-first
returns-then-is_node-clause-first c =
    first_node_at c.args.steps.now c.loop-n.n c.index-steps-n.result c.loop-n-test.true (sym c.if-is_node.true ∙ c.is_node.ensures) c.loop-n.invariant
