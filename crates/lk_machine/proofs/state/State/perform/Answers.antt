use Rattle.std.proofs.Common.{sym, subst, ap, ◌∙◌}
use Rattle.std.proofs.lemmas.Result.{IfOk-weaker}
use Rattle.lk_machine.specs.Acts.{IsAct, each_of}
use Rattle.lk_machine.specs.Moves.{ActsAt, IsTold, Leads, performed}
use Rattle.lk_machine.proofs.state.State.perform.Goals as goal

pub returns-in-Goto-clause-kept : goal.returns-in-Goto-clause-kept
returns-in-Goto-clause-kept c =
    IfOk-weaker c.go_to.result _ _
    (λ next moves names a is t u acts frames.
    let w = subst (λ x. IsAct c.args.tables.now.forms c.args.form.now names x a) c.in-Goto.is is in
    moves t u (subst (λ b. ActsAt c.args.tables.now c.args.self.now.place b t) w.1 acts.0) frames)
    c.go_to.ensures.kept

pub returns-in-Print-clause-kept : goal.returns-in-Print-clause-kept
returns-in-Print-clause-kept c =
    IfOk-weaker c.print.result _ _
    (λ next moves names a is t u acts frames.
    let w = subst (λ x. IsAct c.args.tables.now.forms c.args.form.now names x a) c.in-Print.is is in
    moves t u (subst (λ b. ActsAt c.args.tables.now c.args.self.now.place b t) w acts.0) frames)
    c.print.ensures.kept

pub returns-in-Each-clause-leads : goal.returns-in-Each-clause-leads
returns-in-Each-clause-leads c =
    IfOk-weaker c.each.result _ _
    (λ next leads names a is.
    let w = subst (λ x. IsAct c.args.tables.now.forms c.args.form.now names x a) c.in-Each.is is in
    let same = w.3 ∙ ap (each_of c.args.form.now.at c.in-Each.name c.in-Each.body c.in-Each.values) (sym w.2) in
    subst (λ b. Leads c.args.tables.now c.args.self.now (performed c.args.tables.now c.args.self.now.place b) c.each.new.self next) (sym same) leads)
    c.each.ensures.leads

pub returns-in-Each-clause-kept : goal.returns-in-Each-clause-kept
returns-in-Each-clause-kept c =
    IfOk-weaker c.each.result _ _
    (λ next moves names a is t u acts frames.
    let w = subst (λ x. IsAct c.args.tables.now.forms c.args.form.now names x a) c.in-Each.is is in
    let same = w.3 ∙ ap (each_of c.args.form.now.at c.in-Each.name c.in-Each.body c.in-Each.values) (sym w.2) in
    let told = subst (λ x. IsTold c.args.tables.now c.args.self.now.place c.args.node c.args.form.now x t) c.in-Each.is acts.1 in
    moves t u (subst (λ b. ActsAt c.args.tables.now c.args.self.now.place b t) same acts.0, told) frames)
    c.each.ensures.kept
