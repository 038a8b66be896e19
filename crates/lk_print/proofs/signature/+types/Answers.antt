use Rattle.std.proofs.lemmas.Result.{on_ok_weaker}
use Rattle.lk_print.specs.Printed.{named_field, tagged_field, type_of}
use Rattle.lk_print.proofs.Written.{listed}
use Rattle.lk_print.proofs.WrittenTypes.{fields_line, tags_line, function_line}
use Rattle.lk_print.proofs.signature.+types.Goals as goal

pub write_types-returns-after-loop-ty : goal.write_types-returns-after-loop-ty
write_types-returns-after-loop-ty t c = listed type_of c.args.line.now c.loop-ty.line c.args.types.now c.in-Some.rest.now c.in-Some.first.now c.loop-ty.ty-index c.in-Some.ensures.cases.0 c.loop-ty-test.false c.loop-ty.invariant

pub write_fields-returns-after-loop-field : goal.write_fields-returns-after-loop-field
write_fields-returns-after-loop-field t c = listed named_field c.args.line.now c.loop-field.line c.args.fields.now c.in-Some.rest.now c.in-Some.first.now c.loop-field.field-index c.in-Some.ensures.cases.0 c.loop-field-test.false c.loop-field.invariant

pub write_tags-returns-after-loop-tag : goal.write_tags-returns-after-loop-tag
write_tags-returns-after-loop-tag t c = listed tagged_field c.args.line.now c.loop-tag.line c.args.tags.now c.in-Some.rest.now c.in-Some.first.now c.loop-tag.tag-index c.in-Some.ensures.cases.0 c.loop-tag-test.false c.loop-tag.invariant

pub write_type-returns-in_ok-write_fields-in-Fields : goal.write_type-returns-in_ok-write_fields-in-Fields
write_type-returns-in_ok-write_fields-in-Fields t c = on_ok_weaker c.write_sign-in-Fields-2.result (fields_line c.args.line.now _ _ c.write_sign-in-Fields-2.new.line c.args.ty.now c.in-Fields.fields _ c.in-Fields.is c.as_slice.ensures c.in_ok-write_sign-in-Fields.ensures c.in_ok-write_fields-in-Fields.ensures) c.write_sign-in-Fields-2.ensures

pub write_type-returns-in_ok-write_tags-in-Tags : goal.write_type-returns-in_ok-write_tags-in-Tags
write_type-returns-in_ok-write_tags-in-Tags t c = on_ok_weaker c.write_sign-in-Tags-2.result (tags_line c.args.line.now _ _ c.write_sign-in-Tags-2.new.line c.args.ty.now c.in-Tags.tags _ c.in-Tags.is c.as_slice-in-Tags.ensures c.in_ok-write_sign-in-Tags.ensures c.in_ok-write_tags-in-Tags.ensures) c.write_sign-in-Tags-2.ensures

pub write_type-returns-in_ok-write_sign-in-Fun-3 : goal.write_type-returns-in_ok-write_sign-in-Fun-3
write_type-returns-in_ok-write_sign-in-Fun-3 t c = on_ok_weaker c.write_type-in-Fun.result (function_line c.args.line.now _ _ _ _ c.write_type-in-Fun.new.line c.args.ty.now c.in-Fun.answer c.in-Fun.params _ c.in-Fun.is c.as_slice-in-Fun.ensures c.in_ok-write_sign-in-Fun.ensures c.in_ok-write_types-in-Fun.ensures c.in_ok-write_sign-in-Fun-2.ensures c.in_ok-write_sign-in-Fun-3.ensures) (rw c.get-in-Fun.ensures at c.write_type-in-Fun.ensures)
