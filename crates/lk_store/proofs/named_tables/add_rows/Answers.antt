use Rattle.std.proofs.Common.{rules}
use Rattle.std.proofs.lemmas.Result.{on_ok_weaker}
use Rattle.lk_store.proofs.Listed.{adds, adds_first}
use Rattle.lk_store.proofs.named_tables.add_rows.Goals as goal

pub returns-in-Some : goal.returns-in-Some
returns-in-Some c =
    on_ok_weaker c.append.result
    (λ is. adds c.args.tables.now (c.get_mut.follows.lender c.append.new.rows) c.args.name.now c.in-Some.there.now c.append.new.rows c.args.rows c.in-Some.ensures.value is ((c.get_mut.follows.holds c.append.new.rows).3 (search rules)))
    c.append.ensures

pub returns-in-None : goal.returns-in-None
returns-in-None c =
    on_ok_weaker c.set_rows.result
    (λ put. adds_first c.args.tables.now c.get_mut.follows.lender-at-none _ c.args.name.now c.args.rows c.in-None.ensures.value c.get_mut.follows.holds-at-none put)
    c.set_rows.ensures
