use Rattle.std.proofs.Common.{◌≡◌, ◌++◌, take}
use Rattle.lk_types.specs.TypeText.{ground_text, ground_field_text}
use Rattle.lk_types.proofs.Lists.{front, behind}
use Rattle.lk_types.proofs.ground_text.+grounds.Given as goal

abbrev pub invariant-write_grounds-loop-ty : goal.invariant-write_grounds-loop-ty
invariant-write_grounds-loop-ty l = l.text ≡ (l.fn.text ++ front ground_text l.fn.types) ++ behind ground_text (take l.ty-index l.rest)

abbrev pub invariant-write_fields-loop-field : goal.invariant-write_fields-loop-field
invariant-write_fields-loop-field l = l.text ≡ (l.fn.text ++ front ground_field_text l.fn.fields) ++ behind ground_field_text (take l.field-index l.rest)
