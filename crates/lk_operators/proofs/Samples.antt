-- Operations worked by hand, computed by the definitions.
use Rattle.std.proofs.Common.{◌≡◌, ℤ, pos, negsuc, false, is_lt}
use Rattle.lk_ast.specs.declared.event.Trap.TheVariants.{Divide}
use Rattle.lk_ast.specs.declared.value.Value.TheVariants as value
use Rattle.lk_operators.specs.Numbers.{add, quotient, remainder}
use Rattle.lk_operators.specs.Order.{compared}
use Rattle.lk_operators.specs.Values.{int, truth}
use Rattle.lk_operators.specs.declared.outcome.Outcome.TheVariants as outcome

abbrev least : ℤ
least = negsuc 9223372036854775807

abbrev greatest : ℤ
greatest = pos 9223372036854775807

abbrev minus_one : ℤ
minus_one = negsuc 0

pub past_the_greatest : add (int greatest) (int (pos 1)) ≡ outcome.Value (int least)
past_the_greatest = simp (value.outs-Base)

pub least_by_minus_one : quotient (int least) (int minus_one) ≡ outcome.Value (int least)
least_by_minus_one = simp (value.outs-Base)

pub least_modulo_minus_one : remainder (int least) (int minus_one) ≡ outcome.Value (int (pos 0))
least_modulo_minus_one = simp (value.outs-Base)

-- -7 / 2 is -3, with the remainder -1
pub truncated : quotient (int (negsuc 6)) (int (pos 2)) ≡ outcome.Value (int (negsuc 2))
truncated = simp (value.outs-Base)

pub with_the_sign_of_the_dividend : remainder (int (negsuc 6)) (int (pos 2)) ≡ outcome.Value (int minus_one)
with_the_sign_of_the_dividend = simp (value.outs-Base)

pub by_zero : quotient (int (pos 1)) (int (pos 0)) ≡ outcome.Trap Divide
by_zero = simp (value.outs-Base)

pub of_two_kinds : compared is_lt (truth false) (int (pos 1)) ≡ false
of_two_kinds = simp (value.outs-Base)
