-- Outcomes by the number and the kinds of the operands.
use Rattle.std.specs.Prelude.{List, [], ◌∷◌, Option, Some, None}
use Rattle.lk_ast.specs.declared.value.Value.{Value}
use Rattle.lk_operators.specs.declared.outcome.Outcome.{Outcome}
use Rattle.lk_operators.specs.declared.outcome.Outcome.TheVariants as outcome

-- what follows from a thing, if there is one
abbrev pub given : {A : Type 0} → (A → Outcome) → Option A → Outcome
given f None = outcome.NoRule
given f (Some x) = f x

-- a node without operands
abbrev pub on_none : Outcome → List Value → Outcome
on_none o [] = o
on_none o _ = outcome.NoRule

-- the one value of a list
abbrev pub only : List Value → Option Value
only (v ∷ []) = Some v
only _ = None

-- the two values of a list
abbrev pub pair : List Value → Option (Value × Value)
pair (v ∷ w ∷ []) = Some (v, w)
pair _ = None

-- a node with one operand
abbrev pub on_one : (Value → Outcome) → List Value → Outcome
on_one f values = given f (only values)

-- a node with two operands
abbrev pub on_two : (Value → Value → Outcome) → List Value → Outcome
on_two f values = given (λ p. f p.0 p.1) (pair values)

-- both operands are of one kind
abbrev pub both : {A : Type 0} → (Value → Option A) → (A → A → Outcome) → Value → Value → Outcome
both kind f v w = given (λ a. given (f a) (kind w)) (kind v)
