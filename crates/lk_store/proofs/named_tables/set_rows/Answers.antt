use Rattle.lk_store.proofs.Listed.{puts_key}
use Rattle.lk_store.proofs.named_tables.set_rows.Goals as goal

pub returns : goal.returns
returns c = puts_key c.args.tables.now c.insert.new.self c.in_ok-key.key c.args.name.now c.args.rows c.in_ok-key.ensures.ok c.in_ok-insert.ensures.updates
