use Rattle.std.proofs.Common.{map, ap, refl, sym, ◌∙◌}
use Rattle.std.proofs.lemmas.Result.{IfOk-weaker}
use Rattle.lk_ast.specs.Tables.{rows_of}
use Rattle.lk_exec.specs.Scopes.{scope_of}
use Rattle.lk_exec.proofs.Chosen.{met_later, met_now, popped}
use Rattle.lk_sql.proofs.MeaningForms.{value_op}
use Rattle.lk_sql.specs.Meaning.{value}
use Rattle.lk_sql.specs.Operations.{operation}
use Rattle.lk_exec.proofs.+values.Goals as goal

pub choices::is_met-returns-then-branch : goal.choices::is_met-returns-then-branch
choices::is_met-returns-then-branch t c =
    met_now (rows_of c.args.over.now.tables.now) c.args.over.now.params.now c.args.condition.now c.args.froms.now c.from-item.result c.args.scope.now c.rows_under-rows.result.now c.loop-row.row-index c.row-item.result
    c.in-len1-up.len_at_least c.from-item.is c.rows_under-rows.ensures c.loop-row-test.true c.row-item.is
    c.loop-row.inner _ _ _ c.loop-row.invariant.0 c.in_ok-push.ensures.ok c.as_slice.ensures refl refl
    c.in_ok-is_met.field-0 c.in_ok-is_met.ensures c.loop-row.invariant.1 c.if-branch.true

pub choices::is_met-loop-row-preserved : goal.choices::is_met-loop-row-preserved
choices::is_met-loop-row-preserved t c = (
  popped c.push.new.self c.pop.new.self c.loop-row.inner c.args.scope.now _ c.pop.result c.pop.ensures c.in_ok-push.ensures.ok c.loop-row.invariant.0,
  met_later (rows_of c.args.over.now.tables.now) c.args.over.now.params.now c.args.condition.now c.args.froms.now c.from-item.result c.args.scope.now c.rows_under-rows.result.now c.loop-row.row-index c.row-item.result
      c.in-len1-up.len_at_least c.from-item.is c.rows_under-rows.ensures c.loop-row-test.true c.row-item.is
      c.loop-row.inner _ _ _ c.loop-row.invariant.0 c.in_ok-push.ensures.ok c.as_slice.ensures refl refl
      c.in_ok-is_met.field-0 c.in_ok-is_met.ensures c.loop-row.invariant.1 c.if-branch.false,
)

pub values::value-returns-in-Op : goal.values::value-returns-in-Op
values::value-returns-in-Op t c =
    let tables = rows_of c.args.over.now.tables.now in
    let params = c.args.over.now.params.now in
    let scope = scope_of c.args.scope.now in
    IfOk-weaker c.operated.result _ _
    (λ base is. is ∙ ap (λ xs. operation c.in-Op.op (map (λ x. value tables params x scope) xs)) c.as_slice.ensures ∙ sym (value_op tables params c.in-Op.op c.in-Op.operands scope) ∙ ap (λ x. value tables params x scope) (sym c.in-Op.is))
    c.operated.ensures
