use Rattle.std.proofs.Common.{◌++◌, map, ap, subst, sym, ◌∙◌}
use Rattle.std.specs.Prelude.{IsSome}
use Rattle.lk_ast.specs.Rows.{row_value}
use Rattle.lk_bag.proofs.Records.{of_form}
use Rattle.lk_bag.proofs.rows.rows_in.Goals as goal

pub returns-in-None-2-clause-some : goal.returns-in-None-2-clause-some
returns-in-None-2-clause-some c = λ rows is.
    let found = of_form row_value c.loop-value.rows c.in-Some.value _ rows (ap (λ rest. map row_value c.loop-value.rows ++ rest) (sym c.in-Some.ensures.steps.0) ∙ c.loop-value.invariant ∙ is) in
    subst IsSome c.in-None-2.is (c.in_ok-row.ensures.some found.0 found.1)
