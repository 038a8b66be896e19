use Rattle.lk_sem.proofs.Leading.{leads_across, leads_home}
use Rattle.lk_sem.proofs.machine.Machine.go_to.Goals as goal

pub returns-in_ok-push-in-Client-Server-2-clause-leads : goal.returns-in_ok-push-in-Client-Server-2-clause-leads
returns-in_ok-push-in-Client-Server-2-clause-leads c = λ f args.
    leads_across _ _ _ _ _ _ f args _ _ c.in-Client-Server.is-0 c.in-Client-Server.is-1 c.in_ok-push-in-Client-Server.ensures.ok c.in_ok-push-in-Client-Server-2.ensures.ok

pub returns-in_ok-push-in-Server-Client-2-clause-leads : goal.returns-in_ok-push-in-Server-Client-2-clause-leads
returns-in_ok-push-in-Server-Client-2-clause-leads c = λ f args.
    leads_home _ _ _ _ _ _ f args _ _ c.in-Server-Client.is-0 c.in-Server-Client.is-1 c.in_ok-push-in-Server-Client.ensures.ok c.in_ok-push-in-Server-Client-2.ensures.ok
