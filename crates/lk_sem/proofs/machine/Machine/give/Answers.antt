use Rattle.std.proofs.Common.{sym, subst}
use Rattle.std.proofs.lemmas.Result.{IfOk-weaker}
use Rattle.lk_sem.specs.Machine.{Leads, frame_rest}
use Rattle.lk_sem.proofs.Leading.{leads_given}
use Rattle.lk_sem.proofs.machine.Machine.give.Goals as goal

pub returns-in_ok-push-in-Part-clause-leads : goal.returns-in_ok-push-in-Part-clause-leads
returns-in_ok-push-in-Part-clause-leads c =
    IfOk-weaker c.go_on.result _ _
    (λ next leads. subst (λ f. Leads c.args.index.now c.args.self.now (frame_rest c.args.index.now f c.args.value) c.go_on.new.self next) (sym c.in-Part.is)
    (leads_given _ _ _ _ c.in-Part.waiting _ _ c.in_ok-push-in-Part.ensures.ok leads))
    c.go_on.ensures.leads

pub returns-in-Turn-clause-leads : goal.returns-in-Turn-clause-leads
returns-in-Turn-clause-leads c =
    IfOk-weaker c.take.result _ _ (λ next leads. subst (λ f. Leads c.args.index.now c.args.self.now (frame_rest c.args.index.now f c.args.value) c.take.new.self next) (sym c.in-Turn.is) leads) c.take.ensures.leads

pub returns-in-Back-clause-leads : goal.returns-in-Back-clause-leads
returns-in-Back-clause-leads c =
    IfOk-weaker c.come_back.result _ _ (λ next leads. subst (λ f. Leads c.args.index.now c.args.self.now (frame_rest c.args.index.now f c.args.value) c.come_back.new.self next) (sym c.in-Back.is) leads) c.come_back.ensures.leads
