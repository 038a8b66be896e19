use Rattle.std.proofs.Common.{◌≡◌, map, ap, subst, sym, ◌∙◌}
use Rattle.std.specs.Option.{IfSome}
use Rattle.std.specs.Prelude.{IfOk, IsPermutation}
use Rattle.std.proofs.lemmas.Result.{IfOk-weaker}
use Rattle.lk_ast.specs.Rows.{row_value}
use Rattle.lk_ast.specs.Tables.{rows_of}
use Rattle.lk_bag.specs.Bag.{gives, items}
use Rattle.lk_bag.specs.Legal.{bag}
use Rattle.lk_bag.proofs.Readings.{query_bag, table_sorted}
use Rattle.lk_bag.proofs.answers.answer.Goals as goal

pub returns-in_ok-query_value-in-Query-clause-bag : goal.returns-in_ok-query_value-in-Query-clause-bag
returns-in_ok-query_value-in-Query-clause-bag c =
    let same : c.items_of-found.result ≡ bag c.args.index.now (rows_of c.args.tables.now) c.args.block.now c.args.args.now =
    c.items_of-found.ensures
    ∙ ap items (c.in_ok-query_value-in-Query.ensures ∙ ap (gives c.args.index.now (rows_of c.args.tables.now) c.in-Query.e) c.in_ok-names-in-Query.ensures)
    ∙ sym (query_bag c.args.index.now (rows_of c.args.tables.now) c.args.block.now c.args.args.now c.get.result.now c.in-Query.keys c.in-Query.e c.get.ensures c.in-Query.is) in
    subst (λ values. IfOk c.sorted_rows.result (λ answer. IfSome answer (λ rows. IsPermutation values (map row_value rows)))) same c.sorted_rows.ensures.bag

pub returns-in_ok-query_value-in-Query-clause-rows : goal.returns-in_ok-query_value-in-Query-clause-rows
returns-in_ok-query_value-in-Query-clause-rows c =
    let same : c.items_of-found.result ≡ bag c.args.index.now (rows_of c.args.tables.now) c.args.block.now c.args.args.now =
    c.items_of-found.ensures
    ∙ ap items (c.in_ok-query_value-in-Query.ensures ∙ ap (gives c.args.index.now (rows_of c.args.tables.now) c.in-Query.e) c.in_ok-names-in-Query.ensures)
    ∙ sym (query_bag c.args.index.now (rows_of c.args.tables.now) c.args.block.now c.args.args.now c.get.result.now c.in-Query.keys c.in-Query.e c.get.ensures c.in-Query.is) in
    IfOk-weaker c.sorted_rows.result _ _ (λ answer gives rows is. gives rows (same ∙ is)) c.sorted_rows.ensures.rows

pub returns-in_ok-copy_rows-in-Table-clause-sorted : goal.returns-in_ok-copy_rows-in-Table-clause-sorted
returns-in_ok-copy_rows-in-Table-clause-sorted c = table_sorted c.args.block.now c.get.result.now c.in-Table.name c.in_ok-copy_rows-in-Table.field-0 c.get.ensures c.in-Table.is
