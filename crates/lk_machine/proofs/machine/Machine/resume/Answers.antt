use Rattle.std.proofs.Common.{rules}
use Rattle.lk_machine.proofs.Returning.{going, on, typed}
use Rattle.lk_machine.proofs.machine.Machine.resume.Goals as goal

pub returns-clause-going : goal.returns-clause-going
returns-clause-going c = going _ c.requires.run c.args.place c.args.frames c.args.value c.in_ok-stack.stack (search rules)

pub returns-clause-typed : goal.returns-clause-typed
returns-clause-typed c = typed _ c.requires.run c.args.place c.args.frames c.args.value c.in_ok-stack.stack (search rules) c.requires.place

pub returns-clause-on : goal.returns-clause-on
returns-clause-on c client f g fs two =
    let fit = c.requires.fit in
    on _ c.requires.run c.args.place c.args.frames c.args.value c.in_ok-stack.stack (search rules) c.requires.place fit.0 fit.1 fit.2 fit.3 client f g fs two
