use Rattle.std.proofs.Common.{◌≡◌, ◌+◌, false, Err, take, ap, Option, Some, sym, subst, ◌∙◌}
use Rattle.lk_infer.proofs.LateSteps.{late_ill_typed, late_too_large, late_node}
use Rattle.lk_infer.proofs.late.refuse_late.Goals as goal
use Rattle.lk_typing.specs.declared.step.Step.{Step}
use Rattle.lk_infer.specs.Refusals.{AllFine, IsIllTyped, IsTooLarge}

some_same : (o : Option Step) (a b : Step) → o ≡ Some a → o ≡ Some b → a ≡ b
some_same o a b first second = cc

pub returns-clause-ill_typed : goal.returns-clause-ill_typed
returns-clause-ill_typed c at is =
    let front = c.from_vec-steps.ensures ∙ c.truncate.ensures.items ∙ ap (take (c.args.first + 1)) c.into_vec-steps.ensures in
    late_ill_typed c.args.walk.steps c.args.first c.requires.first at (subst (λ steps. IsIllTyped false steps at) front (c.solve_walk.ensures.ill_typed at (c.in-Err.is ∙ ap Err is)))

pub returns-clause-too_large : goal.returns-clause-too_large
returns-clause-too_large c at is =
    let front = c.from_vec-steps.ensures ∙ c.truncate.ensures.items ∙ ap (take (c.args.first + 1)) c.into_vec-steps.ensures in
    late_too_large c.args.walk.steps c.args.first c.requires.first at (subst (λ steps. IsTooLarge false steps at) front (c.solve_walk.ensures.too_large at (c.in-Err.is ∙ ap Err is)))

pub returns-in_default-clause-too_large : goal.returns-in_default-clause-too_large
returns-in_default-clause-too_large c at is =
    let front = c.from_vec-steps.ensures ∙ c.truncate.ensures.items ∙ ap (take (c.args.first + 1)) c.into_vec-steps.ensures in
    let same : c.at.result.now.at ≡ at = cc in
    late_node c.args.walk.steps c.args.first c.requires.first at
    (let found : c.at.result.now ≡ c.requires.first.step = some_same _ _ _ c.at.ensures c.requires.first.found in sym same ∙ ap (λ step. step.at) found)
    (subst (AllFine false) front c.in_default.ensures.fine)
