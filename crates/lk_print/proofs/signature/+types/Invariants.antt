use Rattle.std.proofs.Common.{◌≡◌, ◌++◌, map, take}
use Rattle.std.specs.Prelude.{flat_map}
use Rattle.lk_print.specs.Printed.{named_field, tagged_field, type_of}
use Rattle.lk_print.specs.Written.{after_comma, spaced}
use Rattle.lk_print.proofs.Appends.{front}
use Rattle.lk_print.proofs.signature.+types.Given as goal

abbrev pub invariant-write_types-loop-ty : goal.invariant-write_types-loop-ty
invariant-write_types-loop-ty l = l.line ≡ (l.fn.line ++ flat_map spaced (front (map type_of l.fn.types))) ++ flat_map (λ x. after_comma (type_of x)) (take l.ty-index l.rest)

abbrev pub invariant-write_fields-loop-field : goal.invariant-write_fields-loop-field
invariant-write_fields-loop-field l = l.line ≡ (l.fn.line ++ flat_map spaced (front (map named_field l.fn.fields))) ++ flat_map (λ x. after_comma (named_field x)) (take l.field-index l.rest)

abbrev pub invariant-write_tags-loop-tag : goal.invariant-write_tags-loop-tag
invariant-write_tags-loop-tag l = l.line ≡ (l.fn.line ++ flat_map spaced (front (map tagged_field l.fn.tags))) ++ flat_map (λ x. after_comma (tagged_field x)) (take l.tag-index l.rest)
