use Rattle.std.proofs.Common.{Err, ◌≤◌, length, ap, subst, sym, ◌∙◌, arith}
use Rattle.lk_infer.proofs.OddSides.{reading, too_large, none_alone, two}
use Rattle.lk_infer.proofs.disagreement.solve_odd.Goals as goal

pub solve_first-requires : goal.solve_first-requires
solve_first-requires c = subst (λ cs. 2 ≤ length cs) (sym c.in_ok-constraints.ensures) (omega arith)

pub first_two-requires : goal.first_two-requires
first_two-requires c = two c.args.odd.equation c.args.odd.before _ c.in_ok-constraints.ensures _ c.in-Ok.ensures.sides

pub returns-in_ok-found-in-Ok : goal.returns-in_ok-found-in-Ok
returns-in_ok-found-in-Ok c = reading c.args.odd.equation c.args.odd.before _ c.in_ok-constraints.ensures _ c.in-Ok.ensures.sides c.in-Ok.ensures.in_order c.in_ok-found-in-Ok.found c.in_ok-found-in-Ok.ensures

pub returns-in-Err-NoSolution : goal.returns-in-Err-NoSolution
returns-in-Err-NoSolution c =
    none_alone c.args.odd.equation c.args.odd.before _ c.in_ok-constraints.ensures _ (c.solve_first.ensures.unmet c.in-Err-NoSolution.field-0-0 (c.in-Err-NoSolution.is ∙ ap Err c.in-Err-NoSolution.field-0-is))

pub returns-in-Err-TypeTooLarge : goal.returns-in-Err-TypeTooLarge
returns-in-Err-TypeTooLarge c =
    too_large c.args.odd.equation c.args.odd.before _ c.in_ok-constraints.ensures _
    (c.solve_first.ensures.large c.in-Err-TypeTooLarge.field-0-0 (c.in-Err-TypeTooLarge.is ∙ ap Err c.in-Err-TypeTooLarge.field-0-is))
