use Rattle.lk_unify.proofs.solvable.order_of.Goals as goal

pub unreachable-requires : goal.unreachable-requires
unreachable-requires c = (rw (c.as_slice.ensures, c.in_default.is) at c.in_ok-order.ensures.never) c.requires.values.0 c.requires.values.1
