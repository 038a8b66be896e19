use Rattle.lk_unify.proofs.Firsts.{solution_first}
use Rattle.lk_unify.proofs.ordered.load_ordered.Goals as goal

pub returns : goal.returns
returns c = rw c.in-Solved.is at c.in_ok-nodes.ensures

pub unreachable-requires : goal.unreachable-requires
unreachable-requires c =
    let unsolved = rw c.in-Unsolved.is at c.in_ok-nodes.ensures in
    unsolved.1 (solution_first c.args.equations.now c.in-Unsolved.field-0 c.requires)
