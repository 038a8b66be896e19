use Rattle.std.proofs.lemmas.Result.{on_ok_weaker}
use Rattle.lk_cli.proofs.Putting.{changed}
use Rattle.lk_cli.proofs.load.put_rows.Goals as goal

pub returns-clause-put : goal.returns-clause-put
returns-clause-put g c = on_ok_weaker c.rewrite.result (λ puts. changed _ _ c.args.def.now.name c.args.rows puts) c.rewrite.ensures.1.1.0
