use Rattle.std.proofs.Common.{◌≡◌, subst, arith}
use Rattle.lk_unify.proofs.FineFirsts.{large_first, unmet_first}
use Rattle.lk_unify.proofs.constrained.refusal.Goals as goal
use Rattle.lk_unify.specs.Constraints.{IsFirstLarge, IsFirstUnmet}
use Rattle.lk_unify.specs.SideSizes.{joined}

pub first_large-requires-clause-nodes : goal.first_large-requires-clause-nodes
first_large-requires-clause-nodes c = c.in_ok-fault.ensures.before

pub returns-in-None-clause-unmet : goal.returns-in-None-clause-unmet
returns-in-None-clause-unmet c k is =
    let same : c.in_ok-fault.fault.number ≡ k = cc in
    subst (IsFirstUnmet (joined c.args.equations.now c.args.sizings.now)) same
    (unmet_first c.args.equations.now c.args.sizings.now c.requires.sizings c.in_ok-fault.fault.number c.in_ok-fault.ensures.first (rw c.in-None.is at c.in_ok-first_large.ensures.fine))

pub returns-clause-large : goal.returns-clause-large
returns-clause-large c k is =
    let same : c.in-Some.j ≡ k = cc in
    let within = c.in_ok-fault.ensures.first.within in
    subst (IsFirstLarge (joined c.args.equations.now c.args.sizings.now)) same
    (large_first c.args.equations.now c.args.sizings.now c.requires.sizings c.in_ok-fault.fault.number c.in-Some.j (omega arith) (rw c.in-Some.is at c.in_ok-first_large.ensures.first))
