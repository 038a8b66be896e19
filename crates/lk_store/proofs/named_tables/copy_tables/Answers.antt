use Rattle.std.proofs.Common.{◌∙◌}
use Rattle.lk_store.proofs.Copying.{one_more}
use Rattle.lk_store.proofs.named_tables.copy_tables.Goals as goal

pub loop-name-preserved : goal.loop-name-preserved
loop-name-preserved c =
    one_more c.args.tables.now.entries c.loop-name.copies.entries c.insert.new.self.entries c.loop-name.name-iterator c.next.new.self _ _ _ _
    c.into_iter-name-iterator.ensures.into_iter_gives.5 c.loop-name.invariant c.in-Some.ensures.steps c.in_ok-insert.ensures.entries (c.in_ok-key.ensures.ok ∙ c.as_str.ensures.value) (c.in_ok-rows.ensures ∙ c.as_slice.ensures)
