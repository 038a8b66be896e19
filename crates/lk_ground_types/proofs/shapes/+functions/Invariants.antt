use Rattle.std.proofs.Common.{◌≡◌, drop}
use Rattle.std.specs.List.{list_any}
use Rattle.lk_ground_types.specs.Shapes.{has_function}
use Rattle.lk_ground_types.proofs.shapes.+functions.Given as goal

abbrev pub invariant-in_fields-loop-field : goal.invariant-in_fields-loop-field
invariant-in_fields-loop-field l = list_any (λ f. has_function f.ty) (drop l.field-index l.fields) ≡ list_any (λ f. has_function f.ty) l.fields
