use Rattle.std.proofs.Common.{refl}
use Rattle.lk_ast.specs.Tables.{rows_of}
use Rattle.lk_sql.specs.declared.tree.Select.{out-Select}
use Rattle.lk_exec.proofs.Chosen.{found_more, popped}
use Rattle.lk_exec.proofs.product.+add_choices.Goals as goal

pub loop-row-preserved : goal.loop-row-preserved
loop-row-preserved t c = (
  popped c.push.new.self c.pop.new.self c.loop-row.inner c.args.scope.now _ c.pop.result c.pop.ensures c.in_ok-push.ensures.ok c.loop-row.invariant.0,
  found_more (rows_of c.args.over.now.tables.now) c.args.over.now.params.now (out-Select c.args.select.now).cond c.args.froms.now c.from-item.result c.args.scope.now c.rows_under-rows.result.now c.loop-row.row-index c.row-item.result
      c.in-len1-up.len_at_least c.from-item.is c.rows_under-rows.ensures c.loop-row-test.true c.row-item.is
      c.loop-row.inner _ _ _ c.loop-row.invariant.0 c.in_ok-push.ensures.ok c.as_slice.ensures refl refl
      (out-Select c.args.select.now).outs c.loop-row.found _ c.args.found.now c.in_ok-add_choices.ensures c.loop-row.invariant.1,
)
