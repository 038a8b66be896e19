use Rattle.std.proofs.Common.{◌≡◌, ◌+◌, ◌++◌, ◌∷◌, [], take, refl, add-one}
use Rattle.std.proofs.Math.Seq.{take-suc}
use Rattle.lk_ast.specs.Tables.{rows_of}
use Rattle.lk_exec.proofs.Scanned.{one_select_more}
use Rattle.lk_exec.proofs.queries.all_rows.Goals as goal

pub loop-select-preserved : goal.loop-select-preserved
loop-select-preserved c =
    let more : take (c.loop-select.select-index + 1) c.args.selects.now ≡ take c.loop-select.select-index c.args.selects.now ++ c.select-item.result ∷ [] = rw (add-one, take-suc c.args.selects.now c.loop-select.select-index c.select-item.result c.loop-select-test.true, ← c.select-item.is) refl in
    rw more (one_select_more (rows_of c.args.over.now.tables.now) c.args.over.now.params.now (take c.loop-select.select-index c.args.selects.now) c.select-item.result _ _ c.loop-select.invariant c.in_ok-add_rows.ensures)
