use Rattle.std.proofs.Common.{◌∙◌, sym, ap, ℕ, length, nat_lt}
use Rattle.std.specs.Bool.{then_some}
use Rattle.lk_ast.specs.Limits.{most_rows}
use Rattle.lk_tables.specs.declared.error.TablesError.TheVariants.{TooManyRows}
use Rattle.lk_tables.proofs.Refusals.{bad_rows, many_rows}
use Rattle.lk_tables.proofs.checks.rows_refusal.Goals as goal

pub returns-then-not-are_rows : goal.returns-then-not-are_rows
returns-then-not-are_rows c = bad_rows c.args.columns.now _ _ _ c.in-Some.ensures c.as_slice.ensures.value c.if-not-are_rows.ensures

pub returns : goal.returns
returns c =
    c.then_some.ensures
    ∙ ap (λ (n : ℕ). then_some (nat_lt most_rows n) TooManyRows) (c.len.ensures ∙ sym c.as_slice.ensures.len ∙ ap length c.as_slice.ensures.value)
    ∙ many_rows c.args.columns.now _ _ _ c.in-Some.ensures c.as_slice.ensures.value c.if-not-are_rows.ensures
