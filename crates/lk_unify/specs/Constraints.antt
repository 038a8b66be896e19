-- Lists of constraints: what their most general solution makes of the sides of each (Robinson, A machine-oriented logic based on
-- the resolution principle, 1965), and which first parts of a list are fine. Not all sizes matter everywhere: those of late
-- constraints are looked at where a late one is the last.
use Rattle.std.specs.Prelude.{◌≡◌, ℕ, ◌+◌, ◌<◌, ◌≤◌, Bool, true, false, ◌⊎◌, List, [], ◌∷◌, Option, Some, None, length, map, take}
use Rattle.lk_types.specs.Each.{Each}
use Rattle.lk_types.specs.Grounding.{Grounding}
use Rattle.lk_types.specs.Sizes.{most_nodes, nodes}
use Rattle.lk_types.specs.Solutions.{HasSolution, Solves}
use Rattle.lk_types.specs.Variables.{equation_variables}
use Rattle.lk_types.specs.declared.equation.Equation.{Equation}
use Rattle.lk_types.specs.declared.ty.Ty.{Ty}
use Rattle.lk_arena.specs.Openings.{Opening, OpensTo, opened}
use Rattle.lk_unify.specs.declared.constraint.Constraint.{Constraint}
use Rattle.lk_unify.specs.declared.constraint.Sizing.{Sizing}
use Rattle.lk_unify.specs.declared.constraint.Sizing.TheVariants.{Always, Late}

abbrev pub equations_of : List Constraint → List Equation
equations_of constraints = map (λ c. c.equation) constraints

-- ---- what the sides become

-- what is put for the variables makes both sides of each equation this type
abbrev pub Makes : Opening → List Equation → List Ty → Type 0
Makes ρ [] [] = Unit {0}
Makes ρ (e ∷ es) (t ∷ ts) = (opened ρ e.left ≡ Some t) × (opened ρ e.right ≡ Some t) × Makes ρ es ts
Makes ρ _ _ = ⊥

-- The equations have a solution, and one of which each solution is an instance makes their sides these types.
pub record AreSides (equations : List Equation) (types : List Ty) : Type 0 where
  pub some : HasSolution equations
  pub opening : Opening
  pub sides : Makes opening equations types
  pub general : (σ : Grounding) → Solves σ equations → (τ : Grounding) × Each (OpensTo τ opening σ) (equation_variables equations)

-- the first of the types that such a solution makes of the sides
abbrev pub AreFirstSides : ℕ → List Equation → List Ty → Type 0
AreFirstSides count equations some = (types : List Ty) × AreSides equations types × (some ≡ take count types)

-- ---- sizes

-- whether a size matters where the last constraint has that sizing
abbrev pub matters : Option Sizing → Sizing → Bool
matters end Always = true
matters (Some Late) Late = true
matters end sizing = false

-- that of the last one
abbrev pub end_of : List Constraint → Option Sizing
end_of [] = None
end_of (c ∷ []) = Some c.sizing
end_of (c ∷ d ∷ more) = end_of (d ∷ more)

-- types whose sizes matter have at most that many nodes
abbrev pub AreFew : Option Sizing → List Constraint → List Ty → Type 0
AreFew end [] types = Unit {0}
AreFew end (c ∷ cs) [] = Unit {0}
AreFew end (c ∷ cs) (t ∷ ts) = (matters end c.sizing ≡ true → nodes t ≤ most_nodes) × AreFew end cs ts

-- one whose size matters has more
abbrev pub AreTooMany : Option Sizing → List Constraint → List Ty → Type 0
AreTooMany end [] types = ⊥
AreTooMany end (c ∷ cs) [] = ⊥
AreTooMany end (c ∷ cs) (t ∷ ts) = ((matters end c.sizing ≡ true) × (most_nodes < nodes t)) ⊎ AreTooMany end cs ts

-- there is a most general solution, and no type whose size matters is too large
abbrev pub AreFine : List Constraint → Type 0
AreFine constraints = (types : List Ty) × AreSides (equations_of constraints) types × AreFew (end_of constraints) constraints types

-- there is a most general solution, and some type whose size matters is too large
abbrev pub AreLarge : List Constraint → Type 0
AreLarge constraints = (types : List Ty) × AreSides (equations_of constraints) types × AreTooMany (end_of constraints) constraints types

-- each first part is fine
abbrev pub AllFine : List Constraint → Type 0
AllFine constraints = (k : ℕ) → k ≤ length constraints → AreFine (take k constraints)

-- the constraints before number k are fine, and with it there is no solution
pub record IsFirstUnmet (constraints : List Constraint) (k : ℕ) : Type 0 where
  pub within : k < length constraints
  pub fine : AllFine (take k constraints)
  pub none : HasSolution (equations_of (take (k + 1) constraints)) → ⊥

-- the constraints before number k are fine, and with it some type whose size matters is too large
pub record IsFirstLarge (constraints : List Constraint) (k : ℕ) : Type 0 where
  pub within : k < length constraints
  pub fine : AllFine (take k constraints)
  pub large : AreLarge (take (k + 1) constraints)
