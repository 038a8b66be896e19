use Rattle.std.proofs.Common.{take}
use Rattle.std.proofs.lemmas.Result.{IfOk-weaker}
use Rattle.lk_infer.proofs.LackMembers.{are_in_order, are_schemes}
use Rattle.lk_infer.proofs.schemes.schemes_of.Goals as goal

pub returns-clause-schemes : goal.returns-clause-schemes
returns-clause-schemes c =
    IfOk-weaker c.schemes_for.result _ _
    (λ schemes made. are_schemes c.args.types.now (take c.args.count c.args.types.now) c.in_ok-all.all schemes c.in_ok-all.ensures.members c.in_ok-all.ensures.ordered made)
    c.schemes_for.ensures

pub returns-clause-ordered : goal.returns-clause-ordered
returns-clause-ordered c =
    IfOk-weaker c.schemes_for.result _ _
    (λ schemes made. are_in_order c.args.types.now (take c.args.count c.args.types.now) c.in_ok-all.all schemes c.in_ok-all.ensures.members c.in_ok-all.ensures.ordered made)
    c.schemes_for.ensures
