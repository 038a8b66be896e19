use Rattle.std.proofs.lemmas.Result.{IfOk-weaker}
use Rattle.lk_cps.proofs.Living.{behind_all}
use Rattle.lk_cps.proofs.tails.behind.Goals as goal

pub returns-clause-live : goal.returns-clause-live
returns-clause-live c = IfOk-weaker c.join.result _ _ (λ both joins. behind_all c.args.table.now c.args.form.now c.in_ok-tails.tails c.in_ok-own.own both c.in_ok-tails.ensures.live c.in_ok-own.ensures joins) c.join.ensures
