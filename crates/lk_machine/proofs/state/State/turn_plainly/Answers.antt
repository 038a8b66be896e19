use Rattle.lk_machine.proofs.Turning.{plain_fits}
use Rattle.lk_machine.proofs.state.State.turn_plainly.Goals as goal

pub has-requires-clause-typed : goal.has-requires-clause-typed
has-requires-clause-typed c =
    let may = c.requires.typed in
    (may.0, may.1, plain_fits c.args.tables.now c.requires.run c.args.self.now.place c.args.turns may.0 may.2, may.3, may.4)

pub returns-then-is_empty-clause-kept : goal.returns-then-is_empty-clause-kept
returns-then-is_empty-clause-kept c t u at frames = c.has.ensures.kept t u (plain_fits c.args.tables.now c.requires.run c.args.self.now.place c.args.turns t at) frames
