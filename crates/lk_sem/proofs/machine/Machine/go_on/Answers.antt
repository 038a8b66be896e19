use Rattle.std.proofs.Common.{sym, ap, ◌∙◌}
use Rattle.std.proofs.lemmas.Result.{IfOk-weaker}
use Rattle.std.specs.Prelude.{slice_get}
use Rattle.lk_ast.specs.Layers.{layer}
use Rattle.lk_evaluation.specs.Syntax.{parts_of}
use Rattle.lk_sem.proofs.Leading.{leads_wait, leads_act}
use Rattle.lk_sem.proofs.machine.Machine.go_on.Goals as goal

pub returns-in_ok-push-in-Some-clause-leads : goal.returns-in_ok-push-in-Some-clause-leads
returns-in_ok-push-in-Some-clause-leads c =
    leads_wait _ _ _ (record { expr = c.args.e; done = c.args.done; scope = c.args.scope; place = c.args.place }) _ _ _ _ (sym c.in-Some.ensures ∙ c.in-Some.ensures) c.len.ensures (sym c.in-Some.ensures) c.in_ok-push-in-Some.ensures.ok c.in_ok-shared-in-Some.ensures

pub returns-in_ok-act-in-None-clause-leads : goal.returns-in_ok-act-in-None-clause-leads
returns-in_ok-act-in-None-clause-leads c =
    IfOk-weaker c.perform.result _ _ (λ next leads. leads_act _ _ _ _ _ _ _ _ (ap (slice_get (parts_of (layer c.args.e.now))) (sym c.len.ensures) ∙ sym c.in-None.ensures) (leads _ c.in_ok-act-in-None.ensures)) c.perform.ensures.leads
