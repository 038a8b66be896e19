use Rattle.std.proofs.Common.{sym, ◌∙◌}
use Rattle.lk_machine.proofs.Having.{ends_well, ends_with, one_frame}
use Rattle.lk_machine.proofs.state.State.has.Goals as goal

pub returns-in-Client-clause-leads : goal.returns-in-Client-clause-leads
returns-in-Client-clause-leads c =
    let one = one_frame c.args.self.now.stack (sym c.len.ensures ∙ c.if-len-eq1.true) in
    let may = c.requires.typed in
    ends_with c.args.tables.now c.args.self.now c.args.value one.0 may.0 may.1 c.in-Client.is may.4.1 one.1 may.3

pub returns-in-Client-clause-kept : goal.returns-in-Client-clause-kept
returns-in-Client-clause-kept c =
    let one = one_frame c.args.self.now.stack (sym c.len.ensures ∙ c.if-len-eq1.true) in
    ends_well c.args.tables.now c.requires.run.sound c.args.self.now c.args.value one.0 one.1
