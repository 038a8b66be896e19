use Rattle.std.proofs.Common.{◌≡◌, Err, subst, ap, ◌∙◌}
use Rattle.lk_infer.proofs.WalkAnswers.{walk_fine, unmet_number, large_number, ill_typed_here, too_large_here}
use Rattle.lk_infer.proofs.solving.solve_walk.Goals as goal
use Rattle.lk_infer.specs.Refusals.{IsIllTyped, IsTooLarge}

pub returns-in-Ok-clause-fine : goal.returns-in-Ok-clause-fine
returns-in-Ok-clause-fine c =
    let plan = c.in_ok-constraints.ensures in
    walk_fine c.args.walk c.requires.functions c.requires.nodes _ plan.constraints _ plan.asked _ plan.places (rw c.in-Ok.is at c.solve.ensures.fine)

pub place_of-requires : goal.place_of-requires
place_of-requires c =
    let plan = c.in_ok-constraints.ensures in
    unmet_number c.args.walk c.requires.functions c.requires.nodes _ plan.constraints _ plan.asked _ (c.as_slice.ensures ∙ plan.places) _ (c.solve.ensures.unmet c.in-Err-NoSolution.k (c.in-Err-NoSolution.is ∙ ap Err c.in-Err-NoSolution.field-0-is))

pub returns-in-Err-NoSolution-clause-ill_typed : goal.returns-in-Err-NoSolution-clause-ill_typed
returns-in-Err-NoSolution-clause-ill_typed c at is =
    let plan = c.in_ok-constraints.ensures in
    let same : c.place_of.result ≡ at = cc in
    subst (IsIllTyped _ c.args.walk.steps) same
    (ill_typed_here c.args.walk c.requires.functions c.requires.nodes _ plan.constraints _ plan.asked _ (c.as_slice.ensures ∙ plan.places) _ (c.solve.ensures.unmet c.in-Err-NoSolution.k (c.in-Err-NoSolution.is ∙ ap Err c.in-Err-NoSolution.field-0-is)) _ c.place_of.ensures)

pub place_of-requires-in-Err-TypeTooLarge : goal.place_of-requires-in-Err-TypeTooLarge
place_of-requires-in-Err-TypeTooLarge c =
    let plan = c.in_ok-constraints.ensures in
    large_number c.args.walk c.requires.functions c.requires.nodes _ plan.constraints _ plan.asked _ (c.as_slice-in-Err-TypeTooLarge.ensures ∙ plan.places) _ (c.solve.ensures.large c.in-Err-TypeTooLarge.k (c.in-Err-TypeTooLarge.is ∙ ap Err c.in-Err-TypeTooLarge.field-0-is))

pub returns-in-Err-TypeTooLarge-clause-too_large : goal.returns-in-Err-TypeTooLarge-clause-too_large
returns-in-Err-TypeTooLarge-clause-too_large c at is =
    let plan = c.in_ok-constraints.ensures in
    let same : c.place_of-in-Err-TypeTooLarge.result ≡ at = cc in
    subst (IsTooLarge _ c.args.walk.steps) same
    (too_large_here c.args.walk c.requires.functions c.requires.nodes _ plan.constraints _ plan.asked _ (c.as_slice-in-Err-TypeTooLarge.ensures ∙ plan.places) _ (c.solve.ensures.large c.in-Err-TypeTooLarge.k (c.in-Err-TypeTooLarge.is ∙ ap Err c.in-Err-TypeTooLarge.field-0-is)) _
    c.place_of-in-Err-TypeTooLarge.ensures)
