use Rattle.std.proofs.Common.{rules, ◌≡◌, true, subst}
use Rattle.std.specs.Str.Parse.{ParsesUnsigned}
use Rattle.lk_http.proofs.Digits.{digits_text, length_past}
use Rattle.lk_http.proofs.fields.length_in.Goals as goal
use Rattle.lk_http.specs.Fields.{is_digits}

pub returns-in_default : goal.returns-in_default
returns-in_default c =
    let digits : is_digits c.args.value.now ≡ true = search rules in
    absurd (c.in_default.ensures.cases.0 (digits_text c.args.value.now digits))

pub returns-in-Err : goal.returns-in-Err
returns-in-Err c =
    let digits : is_digits c.args.value.now ≡ true = search rules in
    length_past c.args.value.now c.parse.result c.in-Err.field-0 digits (subst (λ text. ParsesUnsigned 64 10 text c.parse.result) c.in-Ok.ensures.cases.0 c.parse.ensures.value.0) c.in-Err.is
