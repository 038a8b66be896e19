use Rattle.std.proofs.Common.{◌≡◌, ◌++◌, take}
use Rattle.lk_types.specs.Names.{name}
use Rattle.lk_types.specs.TypeText.{written, written_field}
use Rattle.lk_types.proofs.Lists.{front, behind}
use Rattle.lk_types.proofs.type_text.+types.Given as goal

abbrev pub invariant-write_types-loop-ty : goal.invariant-write_types-loop-ty
invariant-write_types-loop-ty l = l.text ≡ (l.fn.text ++ front (written (name l.names)) l.fn.types) ++ behind (written (name l.names)) (take l.ty-index l.rest)

abbrev pub invariant-write_fields-loop-field : goal.invariant-write_fields-loop-field
invariant-write_fields-loop-field l = l.text ≡ (l.fn.text ++ front (written_field (name l.names)) l.fn.fields) ++ behind (written_field (name l.names)) (take l.field-index l.rest)
