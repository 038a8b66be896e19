use Rattle.std.proofs.Common.{refl, rules, ◌≡◌, Some}
use Rattle.lk_code.specs.Tables.{fun_info}
use Rattle.lk_machine.specs.Typed.{IsCall}
use Rattle.cases.proofs.steps.may_start.Goals as goal

pub returns-then-runs_at : goal.returns-then-runs_at
returns-then-runs_at c fits =
    let told : fun_info c.args.code.now.tables c.args.label ≡ Some c.in-Some.info.now = search rules in
    let at = c.if-runs_at.ensures refl in
    (c.in-Some.info.now.result, (c.in-Some.info.now, record { is = told; fit = c.args_fit.ensures.0 fits; result = refl }, at.0, at.1))
