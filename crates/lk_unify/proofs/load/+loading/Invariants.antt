use Rattle.std.proofs.Common.{take}
use Rattle.lk_unify.proofs.load.+loading.Given as goal
use Rattle.lk_unify.specs.Loading.{LoadsAll, LoadsFields, types_meaning}

abbrev pub invariant-load_fields-loop-field : goal.invariant-load_fields-loop-field
invariant-load_fields-loop-field l = LoadsFields l.fn.loader l.loader (take l.field-index l.fields) l.found

abbrev pub invariant-load_types-loop-ty : goal.invariant-load_types-loop-ty
invariant-load_types-loop-ty l = LoadsAll l.fn.loader l.loader (types_meaning (take l.ty-index l.types)) l.nodes
