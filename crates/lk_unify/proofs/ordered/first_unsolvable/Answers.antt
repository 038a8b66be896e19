use Rattle.lk_unify.proofs.ordered.first_unsolvable.Goals as goal

pub first_fault-requires-clause-within : goal.first_fault-requires-clause-within
first_fault-requires-clause-within c = rw c.in-Some.is at c.in_ok-found.ensures.within

pub first_fault-requires-clause-never : goal.first_fault-requires-clause-never
first_fault-requires-clause-never c = rw c.in-Some.is at c.in_ok-found.ensures.never
