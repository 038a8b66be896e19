-- Operations on another number of operands than one or two.
use Rattle.std.proofs.Common.{◌≡◌, ◌≤◌, arith, length, map, List, [], ◌∷◌, refl, sym}
use Rattle.lk_ast.specs.declared.table.Base.{Base}
use Rattle.lk_sql.specs.Operations.{operation, zero_base}
use Rattle.lk_sql.specs.declared.tree.SqlOp.{SqlOp}
use Rattle.lk_sql.specs.declared.tree.SqlOp.TheVariants as op

pub no_operands : (o : SqlOp) → operation o [] ≡ zero_base
no_operands op.Add = refl
no_operands op.Sub = refl
no_operands op.Mul = refl
no_operands op.Neg = refl
no_operands op.Concat = refl
no_operands op.Eq = refl
no_operands op.Ne = refl
no_operands op.Lt = refl
no_operands op.Le = refl
no_operands op.Gt = refl
no_operands op.Ge = refl
no_operands op.And = refl
no_operands op.Or = refl
no_operands op.Not = refl

three_operands : (o : SqlOp) (a b c : Base) (others : List Base) → operation o (a ∷ b ∷ c ∷ others) ≡ zero_base
three_operands op.Add a b c others = refl
three_operands op.Sub a b c others = refl
three_operands op.Mul a b c others = refl
three_operands op.Neg a b c others = refl
three_operands op.Concat a b c others = refl
three_operands op.Eq a b c others = refl
three_operands op.Ne a b c others = refl
three_operands op.Lt a b c others = refl
three_operands op.Le a b c others = refl
three_operands op.Gt a b c others = refl
three_operands op.Ge a b c others = refl
three_operands op.And a b c others = refl
three_operands op.Or a b c others = refl
three_operands op.Not a b c others = refl

pub many_operands : {X : Type 0} (o : SqlOp) (f : X → Base) (xs : List X) → 3 ≤ length xs → zero_base ≡ operation o (map f xs)
many_operands o f [] many = absurd (omega (arith, many))
many_operands o f (a ∷ []) many = absurd (omega (arith, many))
many_operands o f (a ∷ b ∷ []) many = absurd (omega (arith, many))
many_operands o f (a ∷ b ∷ c ∷ others) many = sym (three_operands o (f a) (f b) (f c) (map f others))
