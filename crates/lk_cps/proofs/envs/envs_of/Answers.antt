use Rattle.std.proofs.Common.{ap, subst, ◌∙◌}
use Rattle.std.proofs.lemmas.Result.{IfOk-weaker}
use Rattle.lk_cps.proofs.envs.envs_of.Goals as goal
use Rattle.lk_cps.specs.Conts.{IsEnvOf}
use Rattle.lk_evaluation.specs.Laws.{Both}
use Rattle.lk_ir.specs.declared.nodes.Forms.{Forms}

pub returns : goal.returns
returns c =
    IfOk-weaker c.envs_at.result _ _
    (λ envs is. subst (λ labels. Both (IsEnvOf c.args.table.now) labels envs) (c.as_slice.ensures ∙ ap (λ (f : Forms). f.labels) c.forms.ensures) is)
    c.envs_at.ensures
