use Rattle.std.proofs.Common.{sym, ap, ◌∙◌, map}
use Rattle.std.proofs.lemmas.Result.{on_ok_weaker}
use Rattle.lk_bag.specs.Change.{updated}
use Rattle.lk_bag.specs.Legal.{names_in}
use Rattle.lk_sem.proofs.Changing.{changed_update, update_fits, fits_found}
use Rattle.lk_sem.proofs.writes.update_rows.Goals as goal

pub scan_rows-requires-clause-fit : goal.scan_rows-requires-clause-fit
scan_rows-requires-clause-fit g c = fits_found c.args.catalog.now _ _ c.in-Some.def.now (sym c.in-Some.ensures) c.requires.fit

pub put_rows-requires-clause-columns : goal.put_rows-requires-clause-columns
put_rows-requires-clause-columns g c = update_fits c.args.catalog.now c.requires.apart.bound c.args.site c.args.args.now c.args.block.now c.args.change.now c.in-Some.def.now (sym c.in-Some.ensures) c.in_ok-there.there c.in_ok-rows.rows c.in_ok-there.ensures.listed.fit c.requires.update (c.in_ok-rows.ensures ∙ ap (λ p. map (updated p (names_in c.args.block.now c.args.args.now) c.args.change.now) c.in_ok-there.there) c.index.ensures)

pub returns-clause-changed : goal.returns-clause-changed
returns-clause-changed g c =
    on_ok_weaker c.put_rows.result
    (λ is. changed_update c.args.catalog.now c.requires.apart.bound c.args.site c.args.args.now c.args.block.now c.args.change.now c.in-Some.def.now (sym c.in-Some.ensures) c.in_ok-there.there c.in_ok-rows.rows c.in_ok-there.ensures.listed.fit c.requires.update _ _ c.in_ok-there.ensures.listed.same (c.in_ok-rows.ensures ∙ ap (λ p. map (updated p (names_in c.args.block.now c.args.args.now) c.args.change.now) c.in_ok-there.there) c.index.ensures) (rw c.scan_rows.ensures.tables at is))
    c.put_rows.ensures.ok
