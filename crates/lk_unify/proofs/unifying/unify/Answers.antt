use Rattle.lk_unify.proofs.unifying.unify.Goals as goal

pub first_too_large-requires : goal.first_too_large-requires
first_too_large-requires c = rw c.in-Solved.is at c.in_ok-nodes.ensures

pub refusal-requires-clause-within : goal.refusal-requires-clause-within
refusal-requires-clause-within c =
    let unsolved = rw c.in-Unsolved.is at c.in_ok-nodes.ensures in
    unsolved.0

pub refusal-requires-clause-never : goal.refusal-requires-clause-never
refusal-requires-clause-never c =
    let unsolved = rw c.in-Unsolved.is at c.in_ok-nodes.ensures in
    unsolved.1

pub returns-clause-unsolvable : goal.returns-clause-unsolvable
returns-clause-unsolvable c k is = c.in_ok-refusal-in-Unsolved.ensures.unsolvable k cc

pub returns-clause-large : goal.returns-clause-large
returns-clause-large c k is = c.in_ok-refusal-in-Unsolved.ensures.large k cc
