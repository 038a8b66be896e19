-- Lists, and texts put together.
use Rattle.std.specs.Prelude.{Bool, true, false, List, [], ◌∷◌, ◌++◌}
use Rattle.lk_ast.specs.declared.event.Trap.TheVariants.{Head, Tail}
use Rattle.lk_ast.specs.declared.value.Value.{Value}
use Rattle.lk_operators.specs.Outcomes.{given, both}
use Rattle.lk_operators.specs.Values.{list, list_in, text, text_in, truth}
use Rattle.lk_operators.specs.declared.outcome.Outcome.{Outcome}
use Rattle.lk_operators.specs.declared.outcome.Outcome.TheVariants as outcome

-- `a ^^ b`
abbrev pub concat : Value → Value → Outcome
concat = both text_in (λ s t. outcome.Value (text (s ++ t)))

-- `a ++ b`
abbrev pub append : Value → Value → Outcome
append = both list_in (λ vs ws. outcome.Value (list (vs ++ ws)))

-- `a :: b`
abbrev pub cons : Value → Value → Outcome
cons v w = given (λ vs. outcome.Value (list (v ∷ vs))) (list_in w)

abbrev first : List Value → Outcome
first [] = outcome.Trap Head
first (v ∷ vs) = outcome.Value v

abbrev rest : List Value → Outcome
rest [] = outcome.Trap Tail
rest (v ∷ vs) = outcome.Value (list vs)

abbrev has_none : List Value → Bool
has_none [] = true
has_none (v ∷ vs) = false

-- `hd(e)`
abbrev pub head : Value → Outcome
head v = given first (list_in v)

-- `tl(e)`
abbrev pub tail : Value → Outcome
tail v = given rest (list_in v)

-- `empty(e)`
abbrev pub empty : Value → Outcome
empty v = given (λ vs. outcome.Value (truth (has_none vs))) (list_in v)
