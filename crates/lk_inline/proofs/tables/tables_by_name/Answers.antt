use Rattle.std.proofs.Common.{◌∙◌}
use Rattle.lk_inline.proofs.TablesFound.{one_put}
use Rattle.lk_inline.proofs.tables.tables_by_name.Goals as goal

pub loop-table-preserved-in_ok-insert : goal.loop-table-preserved-in_ok-insert
loop-table-preserved-in_ok-insert c = λ x.
    one_put x c.loop-table.left c.pop.new.self c.in-Some.table _ c.loop-table.map c.insert.new.self c.in-Some.ensures (c.in_ok-name.ensures.ok ∙ c.as_str.ensures) c.in_ok-insert.ensures.updates ∙ c.loop-table.invariant x

pub loop-table-preserved : goal.loop-table-preserved
loop-table-preserved c = λ x.
    one_put x c.loop-table.left c.pop.new.self c.in-Some.table _ c.loop-table.map c.insert.new.self c.in-Some.ensures (c.in_ok-name.ensures.ok ∙ c.as_str.ensures) c.in_ok-insert.ensures.updates ∙ c.loop-table.invariant x
