-- Environments by numbers: what local names stand for where a table has a number for each of them.
use Rattle.std.specs.Prelude.{ℕ, List, [], ◌∷◌, Option, Some}
use Rattle.std.specs.FinMap as finite
use Rattle.std.specs.Ordering.{nat_cmp}
use Rattle.lk_ast.specs.declared.value.Value.{Value}
use Rattle.lk_locals.specs.Names.{with_value}

abbrev pub Env : Type 0
Env = finite.FinMap nat_cmp Value

abbrev pub no_names : Env
no_names = finite.empty

-- one more name, which hides an outer one
abbrev pub bind : ℕ → Value → Env → Env
bind x v env = finite.insert env x v

abbrev pub lookup : Env → ℕ → Option Value
lookup env x = finite.get env x

-- the values of several names, if each has one
abbrev pub lookup_all : Env → List ℕ → Option (List Value)
lookup_all env [] = Some []
lookup_all env (x ∷ xs) = with_value (lookup env x) (lookup_all env xs)

-- values under names, one after the other, as many as there are of both
abbrev pub bind_each : Env → List ℕ → List Value → Env
bind_each env [] values = env
bind_each env (x ∷ xs) [] = env
bind_each env (x ∷ xs) (v ∷ values) = bind_each (bind x v env) xs values
