-- The operations that the code does in one function.
use Rattle.std.specs.Prelude.{Bool, not, ℤ, int_rem}
use Rattle.std.specs.Int.{w64, int_wrapping_add, int_wrapping_sub, int_wrapping_mul, int_wrapping_div}
use Rattle.std.specs.Ordering.{is_lt, is_le, is_gt, is_ge}
use Rattle.lk_ast.specs.declared.value.Value.{Value}
use Rattle.lk_operators.specs.Numbers.{calculation, division}
use Rattle.lk_operators.specs.Order.{compared, same}
use Rattle.lk_operators.specs.declared.numbers.Operation.{Operation}
use Rattle.lk_operators.specs.declared.numbers.Operation.TheVariants as operation
use Rattle.lk_operators.specs.declared.order.Test.{Test}
use Rattle.lk_operators.specs.declared.order.Test.TheVariants as test
use Rattle.lk_operators.specs.declared.outcome.Outcome.{Outcome}

-- an operation on two integers
abbrev pub arithmetic_of : Operation → ℤ → ℤ → Outcome
arithmetic_of operation.Add = calculation (int_wrapping_add w64)
arithmetic_of operation.Sub = calculation (int_wrapping_sub w64)
arithmetic_of operation.Mul = calculation (int_wrapping_mul w64)
arithmetic_of operation.Div = division (int_wrapping_div w64)
arithmetic_of operation.Mod = division int_rem

-- a comparison of two values
abbrev pub comparison_of : Test → Value → Value → Bool
comparison_of test.Eq = same
comparison_of test.Ne = λ v w. not (same v w)
comparison_of test.Lt = compared is_lt
comparison_of test.Le = compared is_le
comparison_of test.Gt = compared is_gt
comparison_of test.Ge = compared is_ge
