use Rattle.std.proofs.Common.{sym}
use Rattle.std.proofs.lemmas.Result.{IfOk-weaker}
use Rattle.lk_compile.proofs.Taking.{changes_found}
use Rattle.lk_compile.proofs.blocks.changed_table.Goals as goal

pub returns-in-Some : goal.returns-in-Some
returns-in-Some c =
    IfOk-weaker c.table_named.result _ _ (λ def named. changes_found c.args.sources.touched.now c.args.sources.defs.now c.args.label c.in-Some.one.now def (sym c.in-Some.ensures) named) c.table_named.ensures
