use Rattle.std.proofs.lemmas.Result.{IfOk-weaker}
use Rattle.lk_sem.proofs.Leading.{leads_taken, leads_no_list}
use Rattle.lk_sem.proofs.machine.Machine.take.Goals as goal

pub returns-in-Some-clause-leads : goal.returns-in-Some-clause-leads
returns-in-Some-clause-leads c = IfOk-weaker c.turn.result _ _ (λ next leads. leads_taken _ _ _ _ c.args.turns _ _ _ c.in-Some.ensures c.in_ok-made-in-Some.ensures leads) c.turn.ensures.leads

pub returns-clause-leads : goal.returns-clause-leads
returns-clause-leads c = leads_no_list _ _ c.args.turns _ c.in-None.ensures
