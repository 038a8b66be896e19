use Rattle.std.proofs.Common.{◌∙◌, List, [], ◌∷◌, ◌++◌, map, take, sym, ap, ap₂, subst}
use Rattle.std.proofs.lemmas.List.{take_all, take_more}
use Rattle.serde_json.specs.Data.{object, put}
use Rattle.serde_json.specs.View.{view, members_view}
use Rattle.serde_json.proofs.Views.{view-Array, view-Object}
use Rattle.lk_ast.specs.declared.table.Row.{Row}
use Rattle.lk_ast.specs.declared.table.TableRows.{TableRows}
use Rattle.lk_tables.specs.Printing.{IsSortedFrom, row_data}
use Rattle.lk_tables.proofs.Entries.{HasEntries, one_more}
use Rattle.std.specs.List.{list_all}
use Rattle.lk_tables.specs.Words.{cells_fit_words, table_fits_words}
use Rattle.lk_tables.proofs.Words.{all_further, all_at_end}
use Rattle.lk_tables.proofs.printing.tables_json.Goals as goal

pub loop-table-preserved : goal.loop-table-preserved
loop-table-preserved c =
    let table = c.table-item.result in
    let before = take c.loop-table.table-index c.args.tables.now in
    let one_further = take_more c.args.tables.now c.loop-table.table-index table c.loop-table-test.true ∙ ap (λ (t : TableRows). before ++ t ∷ []) (sym c.table-item.is) in
    let sorted = subst (λ (rows : List Row). IsSortedFrom (map row_data rows) (map view c.in_ok-sorted_rows.field-0.items)) c.as_slice.ensures c.in_ok-sorted_rows.ensures.sorted in
    let is = c.in_ok-put.ensures.ok ∙ ap₂ (λ k d. put k d (members_view c.loop-table.members.entries)) c.as_str.ensures (view-Array _) in
    let low = ap (list_all cells_fit_words) (sym c.as_slice.ensures) ∙ c.in_ok-sorted_rows.ensures.words in (
      subst (λ (ts : List TableRows). HasEntries ts (members_view c.put.new.map.entries)) (sym one_further) (one_more before _ _ table _ c.loop-table.invariant.0 sorted is),
      all_further table_fits_words c.args.tables.now c.loop-table.table-index table c.loop-table-test.true c.loop-table.invariant.1 low c.table-item.is,
    )

pub returns : goal.returns
returns c =
    let has = subst (λ (ts : List TableRows). HasEntries ts (members_view c.loop-table.members.entries)) (take_all c.loop-table.table-index c.args.tables.now c.loop-table-test.false) c.loop-table.invariant.0 in
    record {
      words = all_at_end table_fits_words c.args.tables.now c.loop-table.table-index c.loop-table-test.false c.loop-table.invariant.1;
      printed = (has.entries, has.each, view-Object c.loop-table.members ∙ ap object has.is);
    }
