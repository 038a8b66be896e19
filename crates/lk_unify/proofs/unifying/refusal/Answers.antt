use Rattle.std.proofs.Common.{◌≡◌, subst, arith}
use Rattle.lk_types.specs.Sizes.{IsFirstTooLarge, IsFirstUnsolvable}
use Rattle.lk_unify.proofs.Firsts.{too_large_first, unsolvable_first}
use Rattle.lk_unify.proofs.unifying.refusal.Goals as goal

pub first_too_large-requires : goal.first_too_large-requires
first_too_large-requires c = c.in_ok-fault.ensures.before

pub returns-in-None-clause-unsolvable : goal.returns-in-None-clause-unsolvable
returns-in-None-clause-unsolvable c k is =
    let same : c.in_ok-fault.fault.number ≡ k = cc in
    subst (IsFirstUnsolvable c.args.equations.now) same
    (unsolvable_first c.args.equations.now c.in_ok-fault.fault.number c.in_ok-fault.ensures.first (rw c.in-None.is at c.in_ok-first_too_large.ensures.small))

pub returns-clause-large : goal.returns-clause-large
returns-clause-large c k is =
    let same : c.in-Some.j ≡ k = cc in
    let within = c.in_ok-fault.ensures.first.within in
    subst (IsFirstTooLarge c.args.equations.now) same
    (too_large_first c.args.equations.now c.in_ok-fault.fault.number c.in-Some.j (omega arith) (rw c.in-Some.is at c.in_ok-first_too_large.ensures.first))
