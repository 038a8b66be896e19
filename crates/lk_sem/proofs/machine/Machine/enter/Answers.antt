use Rattle.std.proofs.lemmas.Result.{IfOk-weaker}
use Rattle.lk_sem.proofs.Leading.{leads_spent, leads_enter}
use Rattle.lk_sem.proofs.machine.Machine.enter.Goals as goal

pub returns-then-self-eq0-clause-leads : goal.returns-then-self-eq0-clause-leads
returns-then-self-eq0-clause-leads c = leads_spent _ _ _ _ c.if-self-eq0.true

pub returns-clause-leads : goal.returns-clause-leads
returns-clause-leads c = IfOk-weaker c.go_on.result _ _ (λ next leads. leads_enter _ _ _ _ _ _ _ c.if-self-eq0.false c.new-done.ensures leads) c.go_on.ensures.leads
