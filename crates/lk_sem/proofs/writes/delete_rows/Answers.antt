use Rattle.std.proofs.Common.{sym, ap, ◌∙◌, filter, not}
use Rattle.std.proofs.lemmas.Result.{on_ok_weaker}
use Rattle.lk_bag.specs.Change.{is_met}
use Rattle.lk_bag.specs.Legal.{names_in}
use Rattle.lk_sem.proofs.Changing.{changed_delete, delete_fits, fits_found}
use Rattle.lk_sem.proofs.writes.delete_rows.Goals as goal

pub scan_rows-requires-clause-fit : goal.scan_rows-requires-clause-fit
scan_rows-requires-clause-fit g c = fits_found c.args.catalog.now _ _ c.in-Some.def.now (sym c.in-Some.ensures) c.requires.fit

pub put_rows-requires-clause-columns : goal.put_rows-requires-clause-columns
put_rows-requires-clause-columns g c = delete_fits c.args.catalog.now c.requires.apart.bound c.args.site c.args.args.now c.args.block.now c.args.change.now c.in-Some.def.now (sym c.in-Some.ensures) c.in_ok-there.there c.in_ok-rows.rows c.in_ok-there.ensures.listed.fit (c.in_ok-rows.ensures ∙ ap (λ p. filter (λ row. not (is_met p (names_in c.args.block.now c.args.args.now) c.args.change.now row)) c.in_ok-there.there) c.index.ensures)

pub returns-clause-changed : goal.returns-clause-changed
returns-clause-changed g c =
    on_ok_weaker c.put_rows.result
    (λ is. changed_delete c.args.catalog.now c.requires.apart.bound c.args.site c.args.args.now c.args.block.now c.args.change.now c.in-Some.def.now (sym c.in-Some.ensures) c.in_ok-there.there c.in_ok-rows.rows c.in_ok-there.ensures.listed.fit c.requires.deletion _ _ c.in_ok-there.ensures.listed.same (c.in_ok-rows.ensures ∙ ap (λ p. filter (λ row. not (is_met p (names_in c.args.block.now c.args.args.now) c.args.change.now row)) c.in_ok-there.there) c.index.ensures) (rw c.scan_rows.ensures.tables at is))
    c.put_rows.ensures.ok
