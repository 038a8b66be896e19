use Rattle.lk_ground_types.proofs.Tables.{bound_effects}
use Rattle.lk_ground_types.proofs.bindings.Bindings.bind_effects.Goals as goal

pub returns-clause-bound : goal.returns-clause-bound
returns-clause-bound c ts = bound_effects ts c.args.self.now c.insert.new.self c.args.variable c.args.labels c.in_ok-insert.ensures.updates.0

pub returns-clause-within : goal.returns-clause-within
returns-clause-within c k within = record { plain = within.plain; rows = within.rows }
