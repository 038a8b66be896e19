use Rattle.lk_parse.proofs.Readings.{tokens_same, tokens_lie}
use Rattle.lk_parse.proofs.scan.tokens.Goals as goal

pub returns-in_ok-read-in-Ok-clause-only : goal.returns-in_ok-read-in-Ok-clause-only
returns-in_ok-read-in-Ok-clause-only c others has = tokens_same c.args.text.now others c.in_ok-read-in-Ok.field-0 has.read (rw c.in-Ok.ensures.cases.0 at c.in_ok-read-in-Ok.ensures.found)

pub returns-in_ok-read-in-Ok-clause-in_order : goal.returns-in_ok-read-in-Ok-clause-in_order
returns-in_ok-read-in-Ok-clause-in_order c = tokens_lie c.args.text.now c.in_ok-read-in-Ok.field-0 (rw c.in-Ok.ensures.cases.0 at c.in_ok-read-in-Ok.ensures.found)
