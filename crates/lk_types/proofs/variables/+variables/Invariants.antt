use Rattle.std.proofs.Common.{◌≡◌, ◌++◌, take}
use Rattle.std.specs.Prelude.{flat_map}
use Rattle.lk_types.specs.Variables.{variables_of, variables_of_field}
use Rattle.lk_types.proofs.variables.+variables.Given as goal

abbrev pub invariant-push_all-loop-ty : goal.invariant-push_all-loop-ty
invariant-push_all-loop-ty l = l.found ≡ l.fn.found ++ flat_map variables_of (take l.ty-index l.types)

abbrev pub invariant-push_fields-loop-field : goal.invariant-push_fields-loop-field
invariant-push_fields-loop-field l = l.found ≡ l.fn.found ++ flat_map variables_of_field (take l.field-index l.fields)
