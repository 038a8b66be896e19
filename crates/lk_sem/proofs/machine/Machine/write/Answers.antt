use Rattle.lk_sem.proofs.Leading.{leads_write, leads_write_across}
use Rattle.lk_sem.proofs.machine.Machine.write.Goals as goal

pub returns-in_ok-push-in-Client-clause-leads : goal.returns-in_ok-push-in-Client-clause-leads
returns-in_ok-push-in-Client-clause-leads c = leads_write_across _ _ _ _ _ _ c.in-Client.is c.in_ok-push-in-Client.ensures.ok

pub returns-in_default-clause-leads : goal.returns-in_default-clause-leads
returns-in_default-clause-leads c = leads_write _ _ _ _ _ c.in_default.not-Client
