use Rattle.std.proofs.Common.{sym, ap, ◌∙◌}
use Rattle.std.specs.FinMap as fin
use Rattle.lk_ground_types.proofs.StringRows.{all_put, keyed, put_all}
use Rattle.lk_ground_types.proofs.part_row.PartRow.copy.Goals as goal

pub returns : goal.returns
returns c =
    ap (λ es. put_all c.loop-label.row (keyed es)) (sym c.in-None.ensures.steps.0)
    ∙ c.loop-label.invariant
    ∙ ap (λ es. put_all fin.empty (keyed es)) (c.into_iter-label-iterator.ensures.into_iter_gives ∙ c.iter-label-items.ensures.rest)
    ∙ all_put _ c.iter-label-items.ensures.ordered
    ∙ c.self.view_is
