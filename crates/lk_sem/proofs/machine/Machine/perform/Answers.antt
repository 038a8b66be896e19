use Rattle.std.proofs.Common.{sym, subst, ap, ◌∙◌, [], map, reverse}
use Rattle.std.proofs.lemmas.List.{reverse-reverse}
use Rattle.std.proofs.lemmas.Result.{IfOk-weaker}
use Rattle.lk_locals.specs.Names.{bind}
use Rattle.lk_sem.specs.Acts.{IsAct}
use Rattle.lk_evaluation.specs.Evaluation.{eval, perform, each}
use Rattle.lk_sem.specs.Machine.{Leads}
use Rattle.lk_evaluation.specs.Source.{source, under}
use Rattle.lk_sem.proofs.machine.Machine.perform.Goals as goal

pub returns-in-Goto-clause-leads : goal.returns-in-Goto-clause-leads
returns-in-Goto-clause-leads c = IfOk-weaker c.go_to.result _ _ (λ next leads a is.
    let w = subst (λ x. IsAct c.args.at x a) c.in-Goto.is is in
    subst (λ b. Leads c.args.index.now c.args.self.now (perform (source c.args.index.now) (eval (source c.args.index.now)) c.args.place b) c.go_to.new.self next) (sym w.2) (leads w.0 w.1))
    c.go_to.ensures.leads

pub returns-in-Print-clause-leads : goal.returns-in-Print-clause-leads
returns-in-Print-clause-leads c = IfOk-weaker c.print.result _ _ (λ next leads a is.
    let w = subst (λ x. IsAct c.args.at x a) c.in-Print.is is in
    subst (λ b. Leads c.args.index.now c.args.self.now (perform (source c.args.index.now) (eval (source c.args.index.now)) c.args.place b) c.print.new.self next) (sym w) leads)
    c.print.ensures.leads

pub returns-in-Read-clause-leads : goal.returns-in-Read-clause-leads
returns-in-Read-clause-leads c = IfOk-weaker c.read.result _ _ (λ next leads a is.
    let w = subst (λ x. IsAct c.args.at x a) c.in-Read.is is in
    subst (λ b. Leads c.args.index.now c.args.self.now (perform (source c.args.index.now) (eval (source c.args.index.now)) c.args.place b) c.read.new.self next) (sym w) leads)
    c.read.ensures.leads

pub returns-in-Write-clause-leads : goal.returns-in-Write-clause-leads
returns-in-Write-clause-leads c = IfOk-weaker c.write.result _ _ (λ next leads a is.
    let w = subst (λ x. IsAct c.args.at x a) c.in-Write.is is in
    subst (λ b. Leads c.args.index.now c.args.self.now (perform (source c.args.index.now) (eval (source c.args.index.now)) c.args.place b) c.write.new.self next) (sym w) leads)
    c.write.ensures.leads

pub returns-in-Each-clause-leads : goal.returns-in-Each-clause-leads
returns-in-Each-clause-leads c = IfOk-weaker c.turn.result _ _ (λ next leads a is.
    let w = subst (λ x. IsAct c.args.at x a) c.in-Each.is is in
    let left = ap reverse (c.from_vec.ensures ∙ c.reverse.ensures.items) ∙ reverse-reverse _ ∙ c.into_vec-left.ensures in
    subst (λ b. Leads c.args.index.now c.args.self.now (perform (source c.args.index.now) (eval (source c.args.index.now)) c.args.place b) c.turn.new.self next) (sym w)
    (subst (λ values. Leads c.args.index.now c.args.self.now (each (source c.args.index.now) (eval (source c.args.index.now)) c.args.at (map (λ v. under (bind c.in-Each.name.now v c.in-Each.scope) c.in-Each.body.now) values) c.args.place []) c.turn.new.self next) left
    (subst (λ made. Leads c.args.index.now c.args.self.now (each (source c.args.index.now) (eval (source c.args.index.now)) c.args.at (map (λ v. under (bind c.in-Each.name.now v c.in-Each.scope) c.in-Each.body.now) (reverse c.from_vec.result)) c.args.place made) c.turn.new.self next) c.new.ensures leads)))
    c.turn.ensures.leads
