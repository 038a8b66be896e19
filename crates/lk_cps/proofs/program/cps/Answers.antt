use Rattle.std.proofs.Common.{ap, subst, sym, ◌≡◌, ◌∙◌}
use Rattle.std.proofs.lemmas.Result.{IfOk-weaker}
use Rattle.lk_cps.proofs.program.cps.Goals as goal
use Rattle.lk_cps.specs.Conts.{AreEnvs, AreTyped}
use Rattle.lk_ir.specs.Orders.{CountFrom, all_orders}
use Rattle.lk_cps.specs.Numbered.{AreWhole}
use Rattle.lk_ir.specs.Uses.{AreNamed}
use Rattle.lk_ir.specs.declared.ir.CpsProgram.{CpsProgram}
use Rattle.lk_ir.specs.declared.nodes.Forms.{Forms}

pub returns-clause-forms : goal.returns-clause-forms
returns-clause-forms c = IfOk-weaker c.with_conts.result _ _ (λ made is. ap (λ (m : CpsProgram). m.forms) is ∙ c.forms-2.ensures) c.with_conts.ensures

pub returns-clause-named : goal.returns-clause-named
returns-clause-named c =
    let table : c.in_ok-table.table ≡ c.args.p.now = c.in_ok-table.ensures ∙ c.get.ensures ∙ c.forms.ensures in
    let known : AreWhole c.args.p.now c.in_ok-conts.conts = subst (λ (f : Forms). AreWhole f c.in_ok-conts.conts) table c.in_ok-conts.ensures.conts in
    IfOk-weaker c.with_conts.result _ _ (λ made is. subst (λ (m : CpsProgram). AreNamed c.args.p.now m.conts) (sym is) known.named) c.with_conts.ensures

pub returns-clause-order : goal.returns-clause-order
returns-clause-order c = IfOk-weaker c.with_conts.result _ _ (λ made is. subst (λ (m : CpsProgram). CountFrom 0 (all_orders m.conts)) (sym is) c.in_ok-conts.ensures.conts.order) c.with_conts.ensures

pub returns-clause-types : goal.returns-clause-types
returns-clause-types c =
    let table : c.in_ok-table.table ≡ c.args.p.now = c.in_ok-table.ensures ∙ c.get.ensures ∙ c.forms.ensures in
    let known : AreWhole c.args.p.now c.in_ok-conts.conts = subst (λ (f : Forms). AreWhole f c.in_ok-conts.conts) table c.in_ok-conts.ensures.conts in
    IfOk-weaker c.with_conts.result _ _ (λ made is. subst (λ (m : CpsProgram). AreTyped c.args.p.now m.conts) (sym is) known.types) c.with_conts.ensures

pub returns-clause-envs : goal.returns-clause-envs
returns-clause-envs c =
    let table : c.conts_of.new.table ≡ c.args.p.now = c.conts_of.ensures.table ∙ c.in_ok-table.ensures ∙ c.get.ensures ∙ c.forms.ensures in
    let known : AreEnvs c.args.p.now c.in_ok-envs.envs = subst (λ (f : Forms). AreEnvs f c.in_ok-envs.envs) table c.in_ok-envs.ensures in
    IfOk-weaker c.with_conts.result _ _ (λ made is. subst (λ (m : CpsProgram). AreEnvs c.args.p.now m.envs) (sym is) known) c.with_conts.ensures
