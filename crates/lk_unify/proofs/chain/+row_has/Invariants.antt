use Rattle.lk_unify.proofs.chain.+row_has.Given as goal

abbrev pub decreases-row_has : goal.decreases-row_has
decreases-row_has l = l.fuel
