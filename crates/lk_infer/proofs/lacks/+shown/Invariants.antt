use Rattle.std.proofs.Common.{◌≡◌, drop}
use Rattle.std.specs.Prelude.{flat_map}
use Rattle.lk_types.specs.declared.ty.TyField.{TyField}
use Rattle.lk_infer.specs.Lacks.{shown}
use Rattle.lk_infer.specs.LacksInOrder.{with_lacks}
use Rattle.lk_infer.proofs.lacks.+shown.Given as goal

abbrev pub invariant-insert_all-loop-ty : goal.invariant-insert_all-loop-ty
invariant-insert_all-loop-ty l = with_lacks l.found (flat_map shown (drop l.ty-index l.types)) ≡ with_lacks l.fn.found (flat_map shown l.types)

abbrev pub invariant-insert_fields-loop-field : goal.invariant-insert_fields-loop-field
invariant-insert_fields-loop-field l =
    with_lacks l.found (flat_map (λ (f : TyField). shown f.ty) (drop l.field-index l.fields)) ≡ with_lacks l.fn.found (flat_map (λ (f : TyField). shown f.ty) l.fields)
