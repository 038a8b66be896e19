use Rattle.std.proofs.Common.{◌≡◌, Some, sym, ap, ◌∙◌}
use Rattle.std.proofs.lemmas.Option.{none-some}
use Rattle.std.proofs.lemmas.Result.{IfOk-weaker}
use Rattle.lk_sem.specs.RowValues.{rows_in}
use Rattle.lk_sem.proofs.Changing.{fits_found, insertion_fits, written_insert}
use Rattle.lk_sem.proofs.RowsBack.{rows_back}
use Rattle.lk_sem.proofs.writes.insert_rows.Goals as goal

pub unreachable-requires-in_default-2 : goal.unreachable-requires-in_default-2
unreachable-requires-in_default-2 g c =
    let read : rows_in c.args.args.now ≡ Some c.requires.insertion.rows = ap rows_in c.requires.insertion.are ∙ rows_back c.requires.insertion.rows in
    none-some c.requires.insertion.rows (sym c.in_default-2.is ∙ c.in_ok-rows.ensures ∙ read)

pub add_rows-requires-clause-fit : goal.add_rows-requires-clause-fit
add_rows-requires-clause-fit g c = fits_found c.args.catalog.now _ _ c.in-Some.def.now (sym c.in-Some.ensures) c.requires.fit

pub add_rows-requires-clause-columns : goal.add_rows-requires-clause-columns
add_rows-requires-clause-columns g c =
    insertion_fits c.args.catalog.now c.requires.apart.bound c.args.site c.args.args.now c.args.table.now c.requires.insertion c.in-Some.def.now (sym c.in-Some.ensures) c.in-Some-2.rows (sym c.in_ok-rows.ensures ∙ c.in-Some-2.is)

pub returns-clause-written : goal.returns-clause-written
returns-clause-written g c =
    IfOk-weaker c.add_rows.result _ _
    (λ written is. written_insert c.args.catalog.now c.requires.apart.bound c.args.site c.args.args.now c.args.table.now c.requires.insertion c.in-Some.def.now (sym c.in-Some.ensures) c.in-Some-2.rows (sym c.in_ok-rows.ensures ∙ c.in-Some-2.is) _ _ _ is)
    c.add_rows.ensures.added
