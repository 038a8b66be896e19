use Rattle.std.proofs.Common.{refl}
use Rattle.lk_parse.proofs.Digits.{no_zero_first, parsed_none, parsed_some}
use Rattle.lk_parse.proofs.literals.value_of.Goals as goal

pub returns-then-has_leading_zero-clause-none : goal.returns-then-has_leading_zero-clause-none
returns-then-has_leading_zero-clause-none c n int =
    let zero = rw c.as_bytes.ensures.value at (c.if-has_leading_zero.ensures.0 refl) in
    no_zero_first c.args.digits.now n int zero.0 zero.1

pub returns-clause-none : goal.returns-clause-none
returns-clause-none c = rw c.ok.ensures.value (parsed_none c.args.digits.now c.parse.result c.requires.some c.requires.digits c.parse.ensures.value.0)

pub returns-clause-value : goal.returns-clause-value
returns-clause-value c =
    rw c.ok.ensures.value (parsed_some c.args.digits.now c.parse.result c.requires.some c.requires.digits (λ long zero.
    let bad = c.if-has_leading_zero.ensures.1 (rw c.as_bytes.ensures.value (long, zero)) in absurd cc)
    c.parse.ensures.value.0)
