use Rattle.std.proofs.Common.{[], ap, sym, ◌∙◌, unwrap_or}
use Rattle.lk_store.proofs.Listed.{rows_there}
use Rattle.lk_store.proofs.named_tables.rows_of.Goals as goal

pub returns-in-Some : goal.returns-in-Some
returns-in-Some c = c.as_slice.ensures ∙ ap (λ o. unwrap_or o []) c.in-Some.ensures.value ∙ sym (rows_there c.args.tables.now c.args.name.now)

pub returns-in-None : goal.returns-in-None
returns-in-None c = ap (λ o. unwrap_or o []) c.in-None.ensures.value ∙ sym (rows_there c.args.tables.now c.args.name.now)
