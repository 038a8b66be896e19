use Rattle.std.proofs.Common.{◌∙◌, ap}
use Rattle.serde_json.specs.Written.{has_float}
use Rattle.lk_tables.proofs.Exact.{row-flat}
use Rattle.lk_tables.proofs.Sorting.{data_at_end, text_at_end}
use Rattle.lk_tables.specs.Words.{cells_fit_words}
use Rattle.lk_tables.proofs.Words.{all_further}
use Rattle.lk_tables.proofs.printing.written_rows.Goals as goal

pub loop-row-preserved : goal.loop-row-preserved
loop-row-preserved c =
    let text = c.from_string-text.ensures ∙ c.in_ok-to_string.ensures.text (ap has_float c.in_ok-row.ensures.shown ∙ (row-flat c.row-item.result).exact) in (
      data_at_end _ _ _ c.args.rows.now c.loop-row.row-index c.row-item.result c.in_ok-push.ensures.items c.loop-row.invariant.0 c.loop-row-test.true c.row-item.is c.in_ok-row.ensures.shown,
      text_at_end _ _ _ c.in_ok-push.ensures.items c.loop-row.invariant.1 text,
      all_further cells_fit_words c.args.rows.now c.loop-row.row-index c.row-item.result c.loop-row-test.true c.loop-row.invariant.2 c.in_ok-row.ensures.words c.row-item.is,
    )
