use Rattle.std.proofs.Common.{◌≡◌, ◌∙◌, ap, subst, map}
use Rattle.std.specs.List.{AllZip}
use Rattle.std.proofs.lemmas.Result.{IfErr-weaker}
use Rattle.lk_ast.specs.Tables.{table_defs}
use Rattle.lk_tables.specs.Law.{are_distinct}
use Rattle.lk_cli.proofs.LoadedTables.{told_fit}
use Rattle.lk_cli.proofs.Putting.{name_of}
use Rattle.lk_cli.proofs.ScannedTables.{left_over, session_answered}
use Rattle.lk_cli.proofs.TablesApart.{tables_apart}
use Rattle.lk_cli.specs.Loading.{IsOfTable}
use Rattle.lk_cli.proofs.session.run_over.Goals as goal

pub load-requires-clause-apart : goal.load-requires-clause-apart
load-requires-clause-apart g c = ap (λ defs. are_distinct (map name_of defs)) (c.as_slice.ensures ∙ c.requires.declared) ∙ tables_apart c.args.program.now c.requires.apart.bound

pub run_loaded-requires-clause-fit : goal.run_loaded-requires-clause-fit
run_loaded-requires-clause-fit g c =
    let declared : c.as_slice.result.now ≡ table_defs c.args.program.now = c.as_slice.ensures ∙ c.requires.declared in
    let fit = subst (λ defs. AllZip IsOfTable defs c.args.rows.loaded) c.requires.declared c.requires.fit in
    told_fit c.args.program.now c.args.rows.loaded _ _ fit (tables_apart c.args.program.now c.requires.apart.bound) (rw declared at c.in_ok-load.ensures.loaded)

pub returns-clause-session : goal.returns-clause-session
returns-clause-session g c =
    let declared : c.as_slice.result.now ≡ table_defs c.args.program.now = c.as_slice.ensures ∙ c.requires.declared in
    let again : c.as_slice-2.result.now ≡ table_defs c.args.program.now = c.as_slice-2.ensures ∙ c.requires.declared in
    let is = c.run_loaded.ensures in
    session_answered c.args.program.now c.args.command.now c.args.rows.loaded c.run_loaded.result _ _ _ _ _ _ (rw declared at c.in_ok-load.ensures.loaded) c.in_ok-load.ensures.counted is.run is.answered is.history is.others (rw again at is.scanned) is.committed

pub returns-clause-refused : goal.returns-clause-refused
returns-clause-refused g c =
    let declared : c.as_slice.result.now ≡ table_defs c.args.program.now = c.as_slice.ensures ∙ c.requires.declared in
    let is = c.run_loaded.ensures in
    IfErr-weaker c.run_loaded.result _ _ (λ fault breaks. left_over c.args.program.now c.args.command.now c.args.rows.loaded _ _ _ _ _ _ fault (rw declared at c.in_ok-load.ensures.loaded) c.in_ok-load.ensures.counted breaks is.others) is.refused
