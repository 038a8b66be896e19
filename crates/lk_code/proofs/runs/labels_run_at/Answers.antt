use Rattle.std.proofs.Common.{ap, ◌∙◌, refl}
use Rattle.lk_code.proofs.Deciding.{labels_done, labels_more}
use Rattle.lk_code.specs.declared.tables.CodeTables.{CodeTables}
use Rattle.lk_code.proofs.runs.labels_run_at.Goals as goal

pub loop-label-preserved : goal.loop-label-preserved
loop-label-preserved c =
    labels_more c.args.c.now c.args.place c.as_slice-info-items.result.now (c.as_slice-info-items.ensures ∙ ap (λ (tables : CodeTables). tables.funs) c.tables.ensures.same) c.loop-label.label c.info-item.result c.loop-label-test.true c.info-item.is
    c.loop-label.invariant (c.if-not-label_runs.ensures.0 refl)

pub returns : goal.returns
returns c =
    labels_done c.args.c.now c.args.place c.as_slice-info-items.result.now (c.as_slice-info-items.ensures ∙ ap (λ (tables : CodeTables). tables.funs) c.tables.ensures.same) c.loop-label.label c.loop-label-test.false c.loop-label.invariant
