use Rattle.lk_unify.proofs.FineFirsts.{if_none, if_some}
use Rattle.lk_unify.proofs.side_sizes.first_side_over.Goals as goal

pub first_over-found-requires-clause-sides : goal.first_over-found-requires-clause-sides
first_over-found-requires-clause-sides c = rw c.as_slice.ensures c.requires.sides

pub first_over-found-requires-clause-sizings : goal.first_over-found-requires-clause-sizings
first_over-found-requires-clause-sizings c = rw c.as_slice.ensures c.requires.sizings

pub returns-clause-within : goal.returns-clause-within
returns-clause-within c =
    if_none
    (λ within. (c.in_ok-counts.counts.items, rw c.as_slice-shapes.ensures at c.in_ok-counts.ensures.counts, rw (c.as_slice.ensures, c.as_slice-2.ensures.value) at within))
    c.first_over-found.result c.first_over-found.ensures.within

pub returns-clause-bound : goal.returns-clause-bound
returns-clause-bound c = rw c.as_slice.ensures at c.first_over-found.ensures.bound

pub returns-clause-before : goal.returns-clause-before
returns-clause-before c =
    if_some
    (λ i before. (c.in_ok-counts.counts.items, rw c.as_slice-shapes.ensures at c.in_ok-counts.ensures.counts, rw (c.as_slice.ensures, c.as_slice-2.ensures.value) at before))
    c.first_over-found.result c.first_over-found.ensures.before

pub returns-clause-beyond : goal.returns-clause-beyond
returns-clause-beyond c =
    if_some
    (λ i beyond. (c.in_ok-counts.counts.items, rw c.as_slice-shapes.ensures at c.in_ok-counts.ensures.counts, rw (c.as_slice.ensures, c.as_slice-2.ensures.value) at beyond))
    c.first_over-found.result c.first_over-found.ensures.beyond
