use Rattle.lk_ground_types.proofs.Tables.{bound_plain, within_plain}
use Rattle.lk_ground_types.proofs.bindings.Bindings.bind_plain.Goals as goal

pub returns-clause-bound : goal.returns-clause-bound
returns-clause-bound c ts = bound_plain ts c.args.self.now c.insert.new.self c.args.variable c.args.number c.in_ok-insert.ensures.updates.0

pub returns-clause-within : goal.returns-clause-within
returns-clause-within c k = within_plain k c.args.self.now c.insert.new.self c.args.variable c.args.number c.in_ok-insert.ensures.updates.0
