use Rattle.lk_machine.proofs.Asking.{asks_well, asks_with, at_server, reach_well, reach_with}
use Rattle.lk_machine.proofs.state.State.reach.Goals as goal

pub returns-in-Client-clause-leads : goal.returns-in-Client-clause-leads
returns-in-Client-clause-leads c =
    let at = c.requires.at in
    let may = c.requires.acts in
    reach_with c.args.tables.now c.requires.run at.0 c.args.form.now c.args.block c.args.label at.1 at.2 at.3 c.args.args c.args.self.now may.0 may.2 c.in-Client.is may.4.1

pub returns-in-Client-clause-kept : goal.returns-in-Client-clause-kept
returns-in-Client-clause-kept c =
    let at = c.requires.at in
    reach_well c.args.tables.now c.requires.run at.0 c.args.form.now c.args.block c.args.label at.1 at.2 at.3 c.args.args c.args.self.now c.in-Client.is c.requires.acts.4

pub returns-in_default : goal.returns-in_default
returns-in_default c =
    let at = c.requires.at in
    let may = c.requires.acts in
    let server = at_server c.args.self.now.place c.in_default.not-Client may.4.0 in
    record {
      leads = asks_with c.args.tables.now c.requires.run at.0 c.args.form.now c.args.block c.args.label at.1 at.2 at.3 c.args.args c.args.self.now may.0 may.2 server;
      kept = asks_well c.args.tables.now c.requires.run at.0 c.args.form.now c.args.block c.args.label at.1 at.2 at.3 c.args.args c.args.self.now may.4;
    }
