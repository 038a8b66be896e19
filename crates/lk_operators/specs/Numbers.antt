-- Integers: 64 bits in two's complement, and what goes past them wraps round (The Rust Reference, "Overflow": the `wrapping_`
-- functions; two's complement as in ISO C, 6.2.6.2).
use Rattle.std.specs.Prelude.{Bool, true, false, ℤ, pos, zero, if◌then◌else◌, int_rem}
use Rattle.std.specs.Fmt.{signed_decimal}
use Rattle.std.specs.Int.{w64, int_wrapping_add, int_wrapping_sub, int_wrapping_mul, int_wrapping_neg, int_wrapping_div}
use Rattle.lk_ast.specs.declared.event.Trap.TheVariants.{Divide}
use Rattle.lk_ast.specs.declared.value.Value.{Value}
use Rattle.lk_operators.specs.Outcomes.{given, both}
use Rattle.lk_operators.specs.Values.{int, int_in, text}
use Rattle.lk_operators.specs.declared.outcome.Outcome.{Outcome}
use Rattle.lk_operators.specs.declared.outcome.Outcome.TheVariants as outcome

-- an operation that always has a result
abbrev pub calculation : (ℤ → ℤ → ℤ) → ℤ → ℤ → Outcome
calculation f m n = outcome.Value (int (f m n))

abbrev pub add : Value → Value → Outcome
add = both int_in (calculation (int_wrapping_add w64))

abbrev pub subtract : Value → Value → Outcome
subtract = both int_in (calculation (int_wrapping_sub w64))

abbrev pub multiply : Value → Value → Outcome
multiply = both int_in (calculation (int_wrapping_mul w64))

abbrev pub negate : Value → Outcome
negate v = given (λ n. outcome.Value (int (int_wrapping_neg w64 n))) (int_in v)

abbrev pub is_zero : ℤ → Bool
is_zero (pos zero) = true
is_zero _ = false

-- an operation whose second operand is a divisor
abbrev pub division : (ℤ → ℤ → ℤ) → ℤ → ℤ → Outcome
division f m n = if is_zero n then outcome.Trap Divide else outcome.Value (int (f m n))

-- The quotient is truncated toward zero, so the remainder has the sign of the dividend (ISO C99, 6.5.5). The least integer
-- by -1 wraps round to itself, with the remainder 0.
abbrev pub quotient : Value → Value → Outcome
quotient = both int_in (division (int_wrapping_div w64))

abbrev pub remainder : Value → Value → Outcome
remainder = both int_in (division int_rem)

-- the decimal digits, behind a minus where it is negative
abbrev pub int_to_string : Value → Outcome
int_to_string v = given (λ n. outcome.Value (text (signed_decimal n))) (int_in v)
