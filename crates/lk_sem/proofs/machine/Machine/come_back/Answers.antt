use Rattle.std.proofs.Common.{ap}
use Rattle.lk_sem.specs.Frames.{returned}
use Rattle.lk_sem.proofs.Leading.{leads_back}
use Rattle.lk_sem.proofs.machine.Machine.come_back.Goals as goal

pub returns-in_ok-push-in-Client-clause-leads : goal.returns-in_ok-push-in-Client-clause-leads
returns-in_ok-push-in-Client-clause-leads c =
    leads_back _ _ _ _ _ _ tt (λ r. ap (λ l. returned l c.args.value r) c.in-Client.is) c.in_ok-push-in-Client.ensures.ok

pub returns-in_ok-push-in-Server-clause-leads : goal.returns-in_ok-push-in-Server-clause-leads
returns-in_ok-push-in-Server-clause-leads c =
    leads_back _ _ _ _ _ _ tt (λ r. ap (λ l. returned l c.args.value r) c.in-Server.is) c.in_ok-push-in-Server.ensures.ok
