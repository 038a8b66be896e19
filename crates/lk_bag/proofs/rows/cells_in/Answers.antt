use Rattle.std.proofs.Common.{◌++◌, map, ap, sym, ◌∙◌}
use Rattle.lk_bag.specs.Cells.{cell_field}
use Rattle.lk_bag.proofs.Records.{of_form}
use Rattle.lk_bag.proofs.rows.cells_in.Goals as goal

pub returns-in-None-cell_in-clause-some : goal.returns-in-None-cell_in-clause-some
returns-in-None-cell_in-clause-some c = λ cells is.
    let found = of_form cell_field c.loop-field.cells c.in-Some.field _ cells (ap (λ rest. map cell_field c.loop-field.cells ++ rest) (sym c.in-Some.ensures.steps.0) ∙ c.loop-field.invariant ∙ is) in
    c.in-None-cell_in.ensures.some found.0 found.1
