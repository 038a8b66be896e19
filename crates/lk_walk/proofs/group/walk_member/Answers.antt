use Rattle.std.proofs.Common.{ap, ◌∙◌, length, [], ◌∷◌, ◌++◌}
use Rattle.std.proofs.lemmas.Result.{on_ok_weaker}
use Rattle.lk_types.specs.declared.equation.Equation.{Equation}
use Rattle.lk_typing.specs.Walk.{params_from}
use Rattle.lk_equations.specs.Forms.{as_told}
use Rattle.lk_walk.specs.Went.{unbound}
use Rattle.lk_walk.proofs.Grouped.{member_is}
use Rattle.lk_walk.proofs.group.walk_member.Goals as goal

pub returns : goal.returns
returns c = on_ok_weaker c.say.result (λ is. member_is c.args.globals.now c.args.in_mutual c.args.member.now.function.now c.args.member.now.first c.in_ok-moved.field-0 c.in_ok-moved-2.field-0 c.any_effects.result (as_told c.in_ok-before.before)
    c.args.walker.now c.tell.new.self c.expr.new.walker c.unbind.new.self c.say.new.self c.push_params.new.names c.in_ok-body.body c.in_ok-answers.answers
    c.any_effects.ensures c.in_ok-moved.ensures c.in_ok-moved-2.ensures c.in_ok-before.ensures c.in_ok-tell.ensures
    (c.in_ok-push_params.ensures.names ∙ ap (λ ps. params_from c.in_ok-moved.field-0 ps ++ c.tell.new.self.names) c.as_slice-params.ensures)
    c.in_ok-body.ensures.walked c.in_ok-body.ensures.number
    (c.unbind.ensures ∙ ap (λ ps. unbound (length ps) c.expr.new.walker) c.as_slice-params.ensures)
    (c.in_ok-answers.ensures ∙ ap (λ (equation : Equation). equation ∷ []) c.same.ensures)
    is)
    c.say.ensures
