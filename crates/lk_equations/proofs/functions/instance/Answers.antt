use Rattle.std.proofs.Common.{◌∙◌}
use Rattle.std.proofs.lemmas.Result.{IfOk-weaker}
use Rattle.lk_equations.proofs.Numbers.{instance_is}
use Rattle.lk_equations.proofs.functions.instance.Goals as goal

pub returns : goal.returns
returns c =
    IfOk-weaker c.numbered.result _ _
    (λ made is. is ∙ instance_is c.args.next c.args.known.now c.parts-both.result.1.now c.parts-both.ensures.numbers c.parts-both.result.0.now c.parts-both.ensures.scheme)
    c.numbered.ensures
