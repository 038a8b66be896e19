use Rattle.std.proofs.Common.{◌∙◌, ap}
use Rattle.lk_locals.specs.Names.{bind}
use Rattle.lk_sem.proofs.Leading.{leads_turn}
use Rattle.lk_sem.proofs.machine.Machine.turn.Goals as goal

pub returns-in-Some-clause-leads : goal.returns-in-Some-clause-leads
returns-in-Some-clause-leads c =
    leads_turn _ _ _ _ _ _ _ c.in-Some.ensures
    (c.in_ok-inner-in-Some.ensures ∙ ap (bind c.args.turns.name.now c.in-Some.value) c.in_ok-share-in-Some.ensures)
    c.in_ok-push-in-Some.ensures.ok
