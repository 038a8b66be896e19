use Rattle.std.proofs.Common.{length, refl}
use Rattle.std.proofs.lemmas.Option.{slice_get_read}
use Rattle.lk_cps.proofs.Living.{bound_case}
use Rattle.lk_cps.proofs.tails.bound_in.Goals as goal

pub returns-in-Some : goal.returns-in-Some
returns-in-Some c = bound_case c.args.cases.now c.args.last c.args.tail c.in-Some.case.now (slice_get_read c.args.cases.now (length c.args.cases.now) c.args.tail c.in-Some.case.now refl c.in-Some.ensures.lookup.3.0 c.in-Some.ensures.lookup.1)
