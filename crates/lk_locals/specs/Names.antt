-- What local names stand for: an environment, a finite map from names to values (P. J. Landin, The Mechanical Evaluation of
-- Expressions, 1964; G. D. Plotkin, A Structural Approach to Operational Semantics, 1981).
use Rattle.std.specs.Prelude.{ℕ, List, [], ◌∷◌, Option, Some, None, if◌then◌else◌, ◌==◌, length, map}
use Rattle.std.specs.Cmp.Lexicographic.{slice_cmp}
use Rattle.std.specs.FinMap as finite
use Rattle.std.specs.Ordering.{nat_cmp}
use Rattle.lk_ast.specs.declared.place.Word.{Word}
use Rattle.lk_ast.specs.declared.value.Value.{Value}

abbrev pub Names : Type 0
Names = finite.FinMap (slice_cmp nat_cmp) Value

abbrev pub no_names : Names
no_names = finite.empty

-- one more name, which hides an outer one
abbrev pub bind : List ℕ → Value → Names → Names
bind x v names = finite.insert names x v

abbrev pub lookup : Names → List ℕ → Option Value
lookup names x = finite.get names x

-- the values of several names, if each has one
abbrev pub with_value : Option Value → Option (List Value) → Option (List Value)
with_value (Some v) (Some values) = Some (v ∷ values)
with_value _ _ = None

abbrev pub lookup_all : Names → List (List ℕ) → Option (List Value)
lookup_all names [] = Some []
lookup_all names (x ∷ xs) = with_value (lookup names x) (lookup_all names xs)

-- values under names, one after the other, as many as there are of both
abbrev pub bind_each : Names → List (List ℕ) → List Value → Names
bind_each names [] values = names
bind_each names (x ∷ xs) [] = names
bind_each names (x ∷ xs) (v ∷ values) = bind_each (bind x v names) xs values

-- the arguments under the names of the parameters, where there are as many
abbrev pub bind_all : Names → List Word → List Value → Option Names
bind_all names params args = if length params == length args then Some (bind_each names (map (λ x. x.text) params) args) else None
