use Rattle.std.proofs.Common.{◌≡◌, drop}
use Rattle.std.specs.List.{list_any}
use Rattle.lk_ast.specs.Plain.{holds_function}
use Rattle.lk_ast.proofs.json.+plain.Given as goal

abbrev pub invariant-any_holds_function-loop-value : goal.invariant-any_holds_function-loop-value
invariant-any_holds_function-loop-value l = list_any holds_function (drop l.value-index l.values) ≡ list_any holds_function l.values

abbrev pub invariant-any_field_holds_function-loop-field : goal.invariant-any_field_holds_function-loop-field
invariant-any_field_holds_function-loop-field l = list_any (λ field. holds_function field.value) (drop l.field-index l.fields) ≡ list_any (λ field. holds_function field.value) l.fields
