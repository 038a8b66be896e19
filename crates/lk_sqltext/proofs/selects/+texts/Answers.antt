use Rattle.std.proofs.Common.{ap, ◌∙◌, ◌++◌}
use Rattle.std.specs.Prelude.{codes}
use Rattle.lk_sql.specs.Text.{select_text}
use Rattle.lk_sqltext.proofs.Lists.{one_more}
use Rattle.lk_sqltext.proofs.selects.+texts.Goals as goal

pub write_selects-loop-select-preserved : goal.write_selects-loop-select-preserved
write_selects-loop-select-preserved t c =
    one_more (codes " UNION ALL ") select_text _ _ _ c.in-Some.rest.now c.loop-select.select-index c.select-item.result _ c.loop-select-test.true c.select-item.is c.loop-select.invariant
    (c.in_ok-write_select-2.ensures ∙ ap (λ z. z ++ select_text c.select-item.result) c.in_ok-push.ensures.ok)
