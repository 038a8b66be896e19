use Rattle.std.proofs.lemmas.Result.{IfOk-weaker}
use Rattle.lk_compile.proofs.Taking.{has_taken}
use Rattle.lk_compile.proofs.blocks.next_code.Goals as goal

pub returns-in-Some-clause-code : goal.returns-in-Some-clause-code
returns-in-Some-clause-code c =
    IfOk-weaker c.code_of.result _ _ (λ code has. has_taken c.args.left.now c.pop.new.self c.in-Some.one c.args.label code c.in-Some.ensures has.0 has.1) c.code_of.ensures
