use Rattle.std.proofs.Common.{arith}
use Rattle.lk_sem.proofs.Leading.{leads_print, leads_print_across}
use Rattle.lk_sem.proofs.machine.Machine.print.Goals as goal

pub returns-in_ok-push-in-Server-3-clause-leads : goal.returns-in_ok-push-in-Server-3-clause-leads
returns-in_ok-push-in-Server-3-clause-leads c =
    leads_print_across _ _ _ _ _ _ _ _ c.in-Server.is c.in_ok-push-in-Server.ensures.ok c.in_ok-push-in-Server-2.ensures.ok c.in_ok-push-in-Server-3.ensures.ok c.unit.ensures

pub returns-in_ok-push-in_default : goal.returns-in_ok-push-in_default
returns-in_ok-push-in_default c = record {
  leads = leads_print _ _ _ _ _ _ c.in_default.not-Server c.in_ok-push-in_default.ensures.ok c.unit-in_default.ensures;
  falls = omega arith;
}
