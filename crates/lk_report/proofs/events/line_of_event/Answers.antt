use Rattle.std.proofs.Common.{ap, ◌∙◌}
use Rattle.lk_ast.specs.Plain.{holds_function}
use Rattle.lk_ast.proofs.PlainRows.{rows_plain}
use Rattle.lk_report.proofs.events.line_of_event.Goals as goal

pub value_text-requires : goal.value_text-requires
value_text-requires c = record { plain = ap holds_function c.in_ok-rows_value-in-Read.ensures ∙ rows_plain c.as_slice-in-Read.result.now }
