use Rattle.std.proofs.Common.{refl, sym, ◌∙◌, arith}
use Rattle.lk_code.proofs.Deciding.{all_done, all_more, all_refused, each_done, each_more, each_refused, field_more, field_refused, fields_done, not_true, other_fields, other_lengths}
use Rattle.lk_code.proofs.Matching.{by_base, by_fields, by_function, by_kept, by_list, by_tag}
use Rattle.lk_code.proofs.fitting.+fits.Goals as goal

pub all_fit-returns-then-not-fits : goal.all_fit-returns-then-not-fits
all_fit-returns-then-not-fits t c =
    all_refused _ c.args.values.now c.args.t.now c.loop-value.value-index c.loop-value.invariant c.value-item.result c.loop-value-test.true c.value-item.is (λ fits. not_true (c.if-not-fits.ensures.1 fits))

pub all_fit-loop-value-preserved : goal.all_fit-loop-value-preserved
all_fit-loop-value-preserved t c =
    all_more _ c.args.values.now c.args.t.now c.loop-value.value-index c.loop-value.invariant c.value-item.result c.loop-value-test.true c.value-item.is (c.if-not-fits.ensures.0 refl)

pub all_fit-returns : goal.all_fit-returns
all_fit-returns t c = all_done _ c.args.values.now c.args.t.now c.loop-value.value-index c.loop-value.invariant c.loop-value-test.false

pub each_fits-returns-then-values-types : goal.each_fits-returns-then-values-types
each_fits-returns-then-values-types t c = other_lengths _ c.args.values.now c.args.types.now c.if-values-types.true

pub each_fits-returns-then-not-fits : goal.each_fits-returns-then-not-fits
each_fits-returns-then-not-fits t c =
    each_refused _ c.args.values.now c.args.types.now c.loop-i.i c.loop-i.invariant c.index-values-i.result c.index-types-i.result c.loop-i-test.true c.index-values-i.is
    (omega (arith, c.loop-i-test.true, c.if-values-types.false)) c.index-types-i.is (λ fits. not_true (c.if-not-fits.ensures.1 fits))

pub each_fits-loop-i-preserved : goal.each_fits-loop-i-preserved
each_fits-loop-i-preserved t c =
    each_more _ c.args.values.now c.args.types.now c.loop-i.i c.loop-i.invariant c.index-values-i.result c.index-types-i.result c.loop-i-test.true c.index-values-i.is
    (omega (arith, c.loop-i-test.true, c.if-values-types.false)) c.index-types-i.is (c.if-not-fits.ensures.0 refl)

pub each_fits-returns : goal.each_fits-returns
each_fits-returns t c = each_done _ c.args.values.now c.args.types.now c.loop-i.i c.loop-i.invariant c.loop-i-test.false (omega (arith, c.loop-i-test.false, c.if-values-types.false))

pub fields_fit-returns-then-fields-types : goal.fields_fit-returns-then-fields-types
fields_fit-returns-then-fields-types t c = other_fields _ c.args.fields.now c.args.types.now c.if-fields-types.true

pub fields_fit-returns-then-not-equals : goal.fields_fit-returns-then-not-equals
fields_fit-returns-then-not-equals t c =
    field_refused _ c.args.fields.now c.args.types.now c.loop-i.i c.loop-i.invariant c.index-fields-i.result c.index-types-i.result c.loop-i-test.true c.index-fields-i.is
    (omega (arith, c.loop-i-test.true, c.if-fields-types.false)) c.index-types-i.is (λ same fits. not_true (c.if-not-equals.ensures.same.1 same))

pub fields_fit-returns-then-not-fits : goal.fields_fit-returns-then-not-fits
fields_fit-returns-then-not-fits t c =
    field_refused _ c.args.fields.now c.args.types.now c.loop-i.i c.loop-i.invariant c.index-fields-i.result c.index-types-i.result c.loop-i-test.true c.index-fields-i.is
    (omega (arith, c.loop-i-test.true, c.if-fields-types.false)) c.index-types-i.is (λ same fits. not_true (c.if-not-fits.ensures.1 fits))

pub fields_fit-loop-i-preserved : goal.fields_fit-loop-i-preserved
fields_fit-loop-i-preserved t c =
    field_more _ c.args.fields.now c.args.types.now c.loop-i.i c.loop-i.invariant c.index-fields-i.result c.index-types-i.result c.loop-i-test.true c.index-fields-i.is
    (omega (arith, c.loop-i-test.true, c.if-fields-types.false)) c.index-types-i.is (c.if-not-equals.ensures.same.0 refl) (c.if-not-fits.ensures.0 refl)

pub fields_fit-returns : goal.fields_fit-returns
fields_fit-returns t c = fields_done _ c.args.fields.now c.args.types.now c.loop-i.i c.loop-i.invariant c.loop-i-test.false (omega (arith, c.loop-i-test.false, c.if-fields-types.false))

pub fits-returns-in-Base-default : goal.fits-returns-in-Base-default
fits-returns-in-Base-default t c = by_base _ c.args.v.now c.args.t.now c.base_fits.result c.in-Base-default.base c.in-Base-default.is-0 c.base_fits.ensures

pub fits-returns-in-List-List : goal.fits-returns-in-List-List
fits-returns-in-List-List t c =
    by_list _ c.args.v.now c.args.t.now c.all_fit.result c.in-List-List.values c.as_slice.result.now c.in-List-List.element c.get.result.now c.in-List-List.is-0 c.in-List-List.is-1 c.as_slice.ensures c.get.ensures c.all_fit.ensures

pub fits-returns-in-Fields-Fields : goal.fits-returns-in-Fields-Fields
fits-returns-in-Fields-Fields t c =
    by_fields _ c.args.v.now c.args.t.now c.fields_fit.result c.in-Fields-Fields.fields c.as_slice-in-Fields-Fields.result.now c.in-Fields-Fields.types c.as_slice-in-Fields-Fields-2.result.now c.in-Fields-Fields.is-0 c.in-Fields-Fields.is-1
    c.as_slice-in-Fields-Fields.ensures (c.as_slice-in-Fields-Fields-2.ensures ∙ c.get-in-Fields-Fields.ensures) c.fields_fit.ensures

pub fits-returns-in-Tag-Tags : goal.fits-returns-in-Tag-Tags
fits-returns-in-Tag-Tags t c =
    by_tag _ c.args.v.now c.args.t.now c.tag_fits.result c.in-Tag-Tags.tag c.in-Tag-Tags.held c.get-in-Tag-Tags.result.now c.in-Tag-Tags.types c.as_slice-in-Tag-Tags.result.now c.in-Tag-Tags.is-0 c.in-Tag-Tags.is-1
    c.get-in-Tag-Tags.ensures (c.as_slice-in-Tag-Tags.ensures ∙ c.get-in-Tag-Tags-2.ensures) c.tag_fits.ensures

pub fits-returns-in-Fun-Fun : goal.fits-returns-in-Fun-Fun
fits-returns-in-Fun-Fun t c =
    by_function _ c.args.v.now c.args.t.now c.function_fits.result c.in-Fun-Fun.function c.in-Fun-Fun.field-0-1 c.in-Fun-Fun.field-1-1 c.in-Fun-Fun.field-2-1 c.in-Fun-Fun.is-0 c.in-Fun-Fun.is-1 c.function_fits.ensures

pub function_fits-returns : goal.function_fits-returns
function_fits-returns t c =
    by_kept c.args.c.now.tables c.args.t.now c.args.function.now c.in-Some.info.now c.each_fits.result c.as_slice.result.now c.as_slice-2.result.now (sym c.in-Some.ensures) (c.if-not-may_be.ensures.0 refl) c.as_slice.ensures c.as_slice-2.ensures c.each_fits.ensures
