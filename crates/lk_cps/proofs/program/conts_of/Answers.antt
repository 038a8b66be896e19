use Rattle.std.proofs.lemmas.Result.{IfOk-weaker}
use Rattle.lk_cps.proofs.Numbering.{whole}
use Rattle.lk_cps.proofs.program.conts_of.Goals as goal
use Rattle.lk_cps.specs.Live.{forward}

pub returns-clause-conts : goal.returns-clause-conts
returns-clause-conts c = IfOk-weaker c.number_all.result _ _ (λ all numbered. whole c.args.table.now (forward c.in_ok-backwards.backwards) all c.in_ok-backwards.ensures.conts numbered) c.number_all.ensures
