use Rattle.std.proofs.Common.{sym, ◌∙◌}
use Rattle.serde_json.specs.View.{view}
use Rattle.lk_tables.proofs.Accepted.{accepted_fit, not_accepted}
use Rattle.lk_tables.proofs.file.accepted_tables.Goals as goal

pub returns-in-None-clause-refused : goal.returns-in-None-clause-refused
returns-in-None-clause-refused c = absurd (not_accepted c.args.tables.now (view c.args.file.now) (sym c.in_ok-refusal.ensures ∙ c.in_default.is) (sym c.in_ok-read.ensures ∙ c.in-None.is))

pub returns-in-Some-2-clause-fit : goal.returns-in-Some-2-clause-fit
returns-in-Some-2-clause-fit c = accepted_fit c.args.tables.now (view c.args.file.now) _ (sym c.in_ok-refusal.ensures ∙ c.in_default.is) (sym c.in_ok-read.ensures ∙ c.in-Some-2.is)
