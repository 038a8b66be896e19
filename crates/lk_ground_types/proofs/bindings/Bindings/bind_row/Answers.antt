use Rattle.lk_ground_types.proofs.Tables.{bound_row, within_row}
use Rattle.lk_ground_types.proofs.bindings.Bindings.bind_row.Goals as goal

pub returns-clause-bound : goal.returns-clause-bound
returns-clause-bound c ts = bound_row ts c.args.self.now c.insert.new.self c.args.variable c.args.row c.in_ok-insert.ensures.updates.0

pub returns-clause-within : goal.returns-clause-within
returns-clause-within c k = within_row k c.args.self.now c.insert.new.self c.args.variable c.args.row c.in_ok-insert.ensures.updates.0
