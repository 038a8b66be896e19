use Rattle.std.proofs.Common.{◌∙◌, ◌++◌, ap}
use Rattle.std.proofs.lemmas.Result.{IfOk-weaker}
use Rattle.lk_types.specs.Variables.{variables_of}
use Rattle.lk_infer.proofs.LackMembers.{rows_are}
use Rattle.lk_infer.proofs.schemes.rows_of.Goals as goal

pub returns : goal.returns
returns c =
    IfOk-weaker c.numbers_of.result _ _
    (λ rows made n. rows_are n c.args.ty.now c.as_slice.result.now rows (c.as_slice.ensures ∙ c.in_ok-push_variables.ensures ∙ ap (λ z. z ++ variables_of c.args.ty.now) c.new-variables.ensures) made)
    c.numbers_of.ensures
