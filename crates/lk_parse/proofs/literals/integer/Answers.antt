use Rattle.std.proofs.Common.{pos, sym, subst, w64, to_z, of_z, ◌≡◌, arith}
use Rattle.std.specs.Char.{is_ascii_digit}
use Rattle.std.specs.List.{AllPass}
use Rattle.std.proofs.lemmas.Int.{ints}
use Rattle.lk_parse.proofs.Integers.{front_digits, int_boundary, int_takes, no_int_stuck}
use Rattle.lk_parse.proofs.Lexemes.{run_passes}
use Rattle.lk_parse.proofs.literals.integer.Goals as goal

pub range-requires-clause-end_boundary : goal.range-requires-clause-end_boundary
range-requires-clause-end_boundary c = rw (c.digits_len-len.ensures.len, c.as_bytes.ensures.value) (int_boundary c.args.text.now c.utf8.text)

pub value_of-requires-clause-digits : goal.value_of-requires-clause-digits
value_of-requires-clause-digits c = subst (AllPass is_ascii_digit) (sym (front_digits c.args.text.now c.as_bytes.result.now c.range.result.now c.digits_len-len.result c.as_bytes.ensures.value c.digits_len-len.ensures.len c.range.ensures.value)) (run_passes is_ascii_digit c.args.text.now)

pub returns-in_err-value : goal.returns-in_err-value
returns-in_err-value c =
    let front = front_digits c.args.text.now c.as_bytes.result.now c.range.result.now c.digits_len-len.result c.as_bytes.ensures.value c.digits_len-len.ensures.len c.range.ensures.value in
    rw c.from_residual.ensures (no_int_stuck c.args.text.now c.requires (rw front at c.in_err-value.ensures.none))

pub returns : goal.returns
returns c =
    let front = front_digits c.args.text.now c.as_bytes.result.now c.range.result.now c.digits_len-len.result c.as_bytes.ensures.value c.digits_len-len.ensures.len c.range.ensures.value in
    let value = c.in_ok-value.ensures.value in
    let int = rw front at value.2 in
    let is : to_z w64 (of_z w64 c.in_ok-value.value) ≡ pos value.0 = omega (arith, ints, value.1, int.1) in
    rw (is, c.digits_len-len.ensures.len, c.as_bytes.ensures.value) (int_takes c.args.text.now value.0 c.utf8.text c.requires int)
