use Rattle.std.proofs.lemmas.Result.{IfOk-weaker}
use Rattle.lk_cps.proofs.Entries.{joins_swapped}
use Rattle.lk_cps.proofs.live.Live.join.Goals as goal

pub returns-then-len : goal.returns-then-len
returns-then-len c = IfOk-weaker c.put_all.result _ _ (λ both joins. joins_swapped c.args.other c.args.self both joins) c.put_all.ensures
