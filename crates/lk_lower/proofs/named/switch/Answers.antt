use Rattle.std.proofs.Common.{refl, ap, subst, ◌∙◌, option_map, Some}
use Rattle.lk_lower.proofs.Shaping.{switch_shaped}
use Rattle.lk_lower.proofs.named.switch.Goals as goal
use Rattle.lk_lower.specs.Steps.{AreCases}
use Rattle.lk_lower.specs.Walked.{state_of}

pub returns : goal.returns
returns c = λ e owner n ty.
    switch_shaped owner n ty (state_of c.args.walk.now) (state_of c.take_type.new.walk) e c.args.cases.now c.args.last.now _
    (record {
      forms = c.in_ok-forms.forms;
      name = c.in_ok-name.name;
      is = refl;
      cases_are = subst (λ cases. AreCases c.args.walk.now.locals.now cases c.in_ok-forms.forms) c.as_slice.ensures c.in_ok-forms.ensures;
      last_is = c.in_ok-name.ensures ∙ ap (option_map Some) c.last_name.ensures;
    })
    c.take_type.ensures
