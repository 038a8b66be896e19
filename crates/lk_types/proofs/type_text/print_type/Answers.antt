use Rattle.std.proofs.Common.{ap, ◌∙◌, ◌++◌}
use Rattle.lk_types.specs.Names.{name}
use Rattle.lk_types.specs.TypeText.{written}
use Rattle.lk_types.specs.Variables.{variables_of}
use Rattle.lk_types.proofs.Numbers.{text_is}
use Rattle.lk_types.proofs.type_text.print_type.Goals as goal

pub returns : goal.returns
returns c = text_is c.in_ok-names.names c.as_slice.result.now c.args.ty.now c.write_type.new.text c.in_ok-names.ensures.numbers
    (c.as_slice.ensures ∙ c.in_ok-push_variables.ensures ∙ ap (λ z. z ++ variables_of c.args.ty.now) c.new-found.ensures)
    (c.in_ok-write_type.ensures ∙ ap (λ z. z ++ written (name c.in_ok-names.names) c.args.ty.now) c.new-text.ensures)
