use Rattle.std.proofs.Common.{ap, ◌∙◌}
use Rattle.std.specs.List.{list_any}
use Rattle.lk_ast.proofs.PlainLevels.{of_list}
use Rattle.lk_ast.specs.Plain.{holds_function}
use Rattle.lk_report.proofs.values.values_text.Goals as goal

pub value_text-requires : goal.value_text-requires
value_text-requires c = record { plain = of_list c.in_ok-copy_values.field-0 ∙ ap (list_any holds_function) c.in_ok-copy_values.ensures ∙ c.requires.plain }
