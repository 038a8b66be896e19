use Rattle.std.proofs.Common.{◌≡◌, false, true, sym, ap, ◌∙◌, subst}
use Rattle.std.specs.List.{AllZip}
use Rattle.lk_ast.specs.Tables.{rows_of, table_defs}
use Rattle.lk_bag.specs.Legal.{bag}
use Rattle.lk_outside.specs.Scans.{FitAll, IsScanned}
use Rattle.lk_sem.proofs.Reading.{answered_by, fit_all, followed_answer, gives_rows, same_block}
use Rattle.lk_sem.proofs.reads.read_open.Goals as goal

pub scan_fitting-requires-clause-fit : goal.scan_fitting-requires-clause-fit
scan_fitting-requires-clause-fit g c =
    let told = (goal.Store-dyn g c.args.store.now).tables c.args.store.now.1 in
    subst (FitAll told) (sym c.tables.ensures) (fit_all (table_defs c.args.catalog.now) told c.requires.fit)

pub unreachable-requires-in-None : goal.unreachable-requires-in-None
unreachable-requires-in-None g c =
    let p = c.args.catalog.now in
    let told = (goal.Store-dyn g c.args.store.now).tables c.args.store.now.1 in
    let are : AllZip (IsScanned told) (table_defs p) c.in_ok-scanned.scanned = rw c.tables.ensures at c.in_ok-scanned.ensures.scanned in
    let there = gives_rows p c.requires.apart.bound told c.args.site c.args.args.now c.requires.reading c.in_ok-scanned.scanned are in
    let same = same_block p c.args.site c.args.args.now c.requires.reading c.in-Some.block.now (sym c.in-Some.ensures) in
    let some = c.in_ok-rows.ensures.rows there.0
    (ap (λ q. bag q (rows_of c.as_slice.result.now) c.in-Some.block.now c.args.args.now) c.index.ensures
    ∙ ap (λ ts. bag p (rows_of ts) c.in-Some.block.now c.args.args.now) c.as_slice.ensures
    ∙ ap (λ b. bag p (rows_of c.in_ok-scanned.scanned) b c.args.args.now) (sym same)
    ∙ there.1) in
    let wrong : false ≡ true = rw c.in-None.is at some in cc

pub returns-clause-answered : goal.returns-clause-answered
returns-clause-answered g c =
    let p = c.args.catalog.now in
    let told = (goal.Store-dyn g c.args.store.now).tables c.args.store.now.1 in
    let are : AllZip (IsScanned told) (table_defs p) c.in_ok-scanned.scanned = rw c.tables.ensures at c.in_ok-scanned.ensures.scanned in
    let same = rw (c.in-Some-2.is, c.index.ensures, c.as_slice.ensures) at c.in_ok-rows.ensures.bag in
    answered_by p c.requires.apart.bound told c.args.site c.args.args.now c.requires.reading c.in_ok-scanned.scanned are c.in-Some.block.now (sym c.in-Some.ensures) c.in-Some-2.rows same
    (rw c.in-Some-2.is at c.in_ok-rows.ensures.sorted)

pub returns-clause-follows : goal.returns-clause-follows
returns-clause-follows g c =
    let p = c.args.catalog.now in
    let told = (goal.Store-dyn g c.args.store.now).tables c.args.store.now.1 in
    let are : AllZip (IsScanned told) (table_defs p) c.in_ok-scanned.scanned = rw c.tables.ensures at c.in_ok-scanned.ensures.scanned in
    let same = rw (c.in-Some-2.is, c.index.ensures, c.as_slice.ensures) at c.in_ok-rows.ensures.bag in
    followed_answer p c.requires.apart.bound told c.args.site c.args.args.now c.requires.reading c.in_ok-scanned.scanned are c.in-Some.block.now (sym c.in-Some.ensures) c.in-Some-2.rows same
    (rw c.in-Some-2.is at c.in_ok-rows.ensures.sorted)
