use Rattle.std.proofs.Common.{◌≡◌, subst}
use Rattle.std.specs.Prelude.{IfOk}
use Rattle.lk_types.specs.declared.ground.Ground.{Ground}
use Rattle.lk_machine.proofs.GoingOn.{step_goes_on}
use Rattle.lk_machine.specs.Typed.{Leaves, MaySteps}
use Rattle.lk_machine.specs.declared.state.State.{State}
use Rattle.lk_machine.proofs.machine.Machine.step.Goals as goal

pub returns-clause-on : goal.returns-clause-on
returns-clause-on c =
    let may = c.requires.typed in
    let tables = c.args.c.now.tables in
    step_goes_on tables c.requires.run c.args.self.now c.step.new.self may.0 may.1 c.step.result
    (subst (λ (m : State). IfOk c.step.result (λ answer. c.step.new.self.place ≡ m.place)) c.self.view_is c.step.ensures.place)
    (subst (λ (m : State). IfOk c.step.result (λ answer. (u : Ground) → MaySteps tables m u → Leaves tables c.step.new.self u answer)) c.self.view_is c.step.ensures.kept)
