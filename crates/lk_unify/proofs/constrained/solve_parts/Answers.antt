use Rattle.std.proofs.Common.{arith}
use Rattle.lk_unify.proofs.SideTypes.{sides_as_many}
use Rattle.lk_unify.proofs.constrained.solve_parts.Goals as goal

pub first_large-requires-clause-nodes : goal.first_large-requires-clause-nodes
first_large-requires-clause-nodes c = rw c.in-Solved.is at c.in_ok-nodes.ensures

pub side_types-requires-clause-nodes : goal.side_types-requires-clause-nodes
side_types-requires-clause-nodes c = (c.args.equations.now, rw c.in-Solved.is at c.in_ok-nodes.ensures)

pub side_types-requires-clause-count : goal.side_types-requires-clause-count
side_types-requires-clause-count c =
    let nodes = rw c.in-Solved.is at c.in_ok-nodes.ensures in
    let many = sides_as_many c.in-Solved.nodes.all.loader c.in-Solved.nodes.all.sides c.args.equations.now nodes.loaded in
    let within = c.requires.count in
    omega arith

pub refusal-requires-clause-within : goal.refusal-requires-clause-within
refusal-requires-clause-within c =
    let unsolved = rw c.in-Unsolved.is at c.in_ok-nodes.ensures in
    unsolved.0

pub refusal-requires-clause-never : goal.refusal-requires-clause-never
refusal-requires-clause-never c =
    let unsolved = rw c.in-Unsolved.is at c.in_ok-nodes.ensures in
    unsolved.1

pub returns-in-None-clause-sides : goal.returns-in-None-clause-sides
returns-in-None-clause-sides c = c.in_ok-side_types-in-None.ensures.sides c.args.equations.now (rw c.in-Solved.is at c.in_ok-nodes.ensures)

pub returns-clause-unmet : goal.returns-clause-unmet
returns-clause-unmet c k is = c.in_ok-refusal-in-Unsolved.ensures.unmet k cc

pub returns-clause-large : goal.returns-clause-large
returns-clause-large c k is = c.in_ok-refusal-in-Unsolved.ensures.large k cc
