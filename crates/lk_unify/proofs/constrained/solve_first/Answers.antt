use Rattle.std.proofs.Common.{◌∙◌, subst}
use Rattle.std.specs.Prelude.{IfOk}
use Rattle.lk_unify.proofs.Joined.{joined_by}
use Rattle.lk_unify.proofs.constrained.solve_first.Goals as goal
use Rattle.lk_unify.specs.Constraints.{AllFine, IsFirstLarge, IsFirstUnmet}

pub returns-clause-fine : goal.returns-clause-fine
returns-clause-fine c =
    subst (λ cs. IfOk c.solve_parts.result (λ types. AllFine cs))
    (joined_by c.as_slice.result.now c.as_slice-2.result.now c.args.constraints (c.as_slice.ensures ∙ c.in_ok-parts.ensures.equations) (c.as_slice-2.ensures ∙ c.in_ok-parts.ensures.sizings))
    c.solve_parts.ensures.fine

pub returns-clause-unmet : goal.returns-clause-unmet
returns-clause-unmet c k is =
    subst (λ cs. IsFirstUnmet cs k)
    (joined_by c.as_slice.result.now c.as_slice-2.result.now c.args.constraints (c.as_slice.ensures ∙ c.in_ok-parts.ensures.equations) (c.as_slice-2.ensures ∙ c.in_ok-parts.ensures.sizings))
    (c.solve_parts.ensures.unmet k is)

pub returns-clause-large : goal.returns-clause-large
returns-clause-large c k is =
    subst (λ cs. IsFirstLarge cs k)
    (joined_by c.as_slice.result.now c.as_slice-2.result.now c.args.constraints (c.as_slice.ensures ∙ c.in_ok-parts.ensures.equations) (c.as_slice-2.ensures ∙ c.in_ok-parts.ensures.sizings))
    (c.solve_parts.ensures.large k is)
