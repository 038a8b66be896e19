use Rattle.std.proofs.Common.{◌≡◌, map, drop}
use Rattle.lk_scope.specs.Names.{no_names}
use Rattle.lk_names.specs.Faults.{first_among}
use Rattle.lk_names.specs.Repeats.{items_fault}
use Rattle.lk_names.specs.Types.{type_fault, field_item}
use Rattle.lk_names.proofs.types.+types.Given as goal

abbrev pub invariant-fields-loop-field : goal.invariant-fields-loop-field
invariant-fields-loop-field l = items_fault l.met (map field_item (drop l.field-index l.list)) ≡ items_fault no_names (map field_item l.list)

abbrev pub invariant-sig_types-loop-ty : goal.invariant-sig_types-loop-ty
invariant-sig_types-loop-ty l = first_among (map type_fault (drop l.ty-index l.list)) ≡ first_among (map type_fault l.list)
