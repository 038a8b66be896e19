use Rattle.std.proofs.Common.{◌≡◌, Some, take, slice_get, ap, subst, ◌∙◌}
use Rattle.lk_infer.proofs.AtOdds.{found_of, never_met}
use Rattle.lk_infer.proofs.disagreement.odds_of.Goals as goal
use Rattle.lk_types.specs.Solutions.{HasSolution}
use Rattle.lk_unify.specs.Solving.{IsFirstWithout}

pub returns-in-Some : goal.returns-in-Some
returns-in-Some c large at ill =
    let said = c.in_ok-equations.ensures in
    let number = c.in-Some.number in
    let first = subst (λ es. IsFirstWithout es number) (c.as_slice.ensures ∙ said) (rw c.in-Some.is at c.in_ok-number.ensures.first) in
    found_of large c.args.steps at ill number first _ _ (c.cut_at.ensures.before ∙ ap (take number) said)
    (subst (λ es. slice_get es number ≡ Some c.cut_at.result.equation) said c.cut_at.ensures.equation) _ c.solve_odd.ensures

pub returns-in-None : goal.returns-in-None
returns-in-None c large at ill =
    absurd (never_met large c.args.steps at ill (subst HasSolution (c.as_slice.ensures ∙ c.in_ok-equations.ensures) (rw c.in-None.is at c.in_ok-number.ensures.solvable)))
