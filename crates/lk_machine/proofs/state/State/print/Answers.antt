use Rattle.std.proofs.Common.{ap, ◌∙◌, ◌∷◌, ◌++◌, []}
use Rattle.lk_operators.specs.Values.{text}
use Rattle.lk_machine.proofs.Asking.{print_well, print_with}
use Rattle.lk_machine.proofs.Having.{prints_value, prints_well, value_fits}
use Rattle.lk_machine.proofs.state.State.print.Goals as goal

pub has-next-requires : goal.has-next-requires
has-next-requires c =
    let may = c.requires.acts in
    record { run = c.requires.run; typed = (may.0, may.1, value_fits c.args.tables.now c.args.self.now.place c.args.text c.unit.result may.0 c.unit.ensures may.2, may.3, may.4) }

pub returns-in_ok-push-in-Server-clause-leads : goal.returns-in_ok-push-in-Server-clause-leads
returns-in_ok-push-in-Server-clause-leads c =
    print_with c.args.tables.now c.requires.run c.args.text c.args.self.now c.push.new.self (c.in_ok-push-in-Server.ensures.ok ∙ ap (λ xs. xs ++ text c.args.text ∷ []) c.new-args.ensures) c.in-Server.is c.requires.acts.4.1

pub returns-in_ok-push-in-Server-clause-kept : goal.returns-in_ok-push-in-Server-clause-kept
returns-in_ok-push-in-Server-clause-kept c =
    print_well c.args.tables.now c.requires.run c.args.text c.args.self.now c.push.new.self (c.in_ok-push-in-Server.ensures.ok ∙ ap (λ xs. xs ++ text c.args.text ∷ []) c.new-args.ensures) c.in-Server.is c.requires.acts.4

pub returns-in_default : goal.returns-in_default
returns-in_default c = record {
  leads =
      prints_value c.args.tables.now c.args.self.now c.in_default.not-Server c.args.text c.requires.acts.4.1 c.unit.result c.unit.ensures c.has-next.new.self c.has-next.result c.has-next.ensures.only c.has-next.ensures.leads;
  kept = prints_well c.args.tables.now c.args.self.now c.has-next.new.self c.args.text c.unit.result c.unit.ensures c.has-next.result c.has-next.ensures.kept;
}
