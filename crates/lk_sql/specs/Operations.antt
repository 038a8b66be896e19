-- What operations give on base values: integers of 64 bits in two's complement, which wrap round, truth values, and texts, which
-- are compared by their bytes. All of them are total: at a base of another kind each takes 0, false or the empty text, but that two
-- bases of different kinds compare as equal.
use Rattle.std.specs.Prelude.{ℕ, ℤ, pos, Bool, false, not, ◌&&◌, ◌||◌, List, [], ◌∷◌, ◌++◌}
use Rattle.std.specs.Int.{w64, int_wrapping_add, int_wrapping_sub, int_wrapping_mul, int_wrapping_neg}
use Rattle.std.specs.Ordering.{is_eq, is_lt, is_le, is_gt, is_ge}
use Rattle.lk_ast.specs.BaseOrder.{base_cmp}
use Rattle.lk_ast.specs.declared.table.Base.{Base}
use Rattle.lk_ast.specs.declared.table.Base.TheVariants as base
use Rattle.lk_sql.specs.declared.tree.SqlOp.{SqlOp}
use Rattle.lk_sql.specs.declared.tree.SqlOp.TheVariants as op

abbrev pub zero_base : Base
zero_base = base.Int (pos 0)

abbrev pub number : Base → ℤ
number (base.Int n) = n
number other = pos 0

abbrev pub truth : Base → Bool
truth (base.Bool b) = b
truth other = false

abbrev pub text : Base → List ℕ
text (base.Text bytes) = bytes
text other = []

abbrev pub on_two : (Base → Base → Base) → List Base → Base
on_two f (a ∷ b ∷ []) = f a b
on_two f other = zero_base

abbrev pub on_one : (Base → Base) → List Base → Base
on_one f (a ∷ []) = f a
on_one f other = zero_base

abbrev pub negation : Base → Base
negation a = base.Bool (not (truth a))

abbrev pub both : Base → Base → Base
both a b = base.Bool (truth a && truth b)

abbrev pub equality : Base → Base → Base
equality a b = base.Bool (is_eq (base_cmp a b))

abbrev pub operation : SqlOp → List Base → Base
operation op.Add = on_two (λ a b. base.Int (int_wrapping_add w64 (number a) (number b)))
operation op.Sub = on_two (λ a b. base.Int (int_wrapping_sub w64 (number a) (number b)))
operation op.Mul = on_two (λ a b. base.Int (int_wrapping_mul w64 (number a) (number b)))
operation op.Neg = on_one (λ a. base.Int (int_wrapping_neg w64 (number a)))
operation op.Concat = on_two (λ a b. base.Text (text a ++ text b))
operation op.Eq = on_two equality
operation op.Ne = on_two (λ a b. negation (equality a b))
operation op.Lt = on_two (λ a b. base.Bool (is_lt (base_cmp a b)))
operation op.Le = on_two (λ a b. base.Bool (is_le (base_cmp a b)))
operation op.Gt = on_two (λ a b. base.Bool (is_gt (base_cmp a b)))
operation op.Ge = on_two (λ a b. base.Bool (is_ge (base_cmp a b)))
operation op.And = on_two both
operation op.Or = on_two (λ a b. base.Bool (truth a || truth b))
operation op.Not = on_one negation
