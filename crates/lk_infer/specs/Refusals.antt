-- What a program is refused for: the first place of the walk at which what is said up to there can't hold, or a type is too large.
-- The walk goes through the declarations in text order, each after the principal schemes of those before it.
use Rattle.std.specs.Prelude.{◌≡◌, ℕ, ◌+◌, ◌<◌, ◌≤◌, ◌⊎◌, Bool, false, true, List, map, length, take, Some, slice_get, nat_lt}
use Rattle.std.specs.List.{list_any}
use Rattle.lk_ast.specs.declared.place.Span.{Span}
use Rattle.lk_types.specs.Sizes.{most_nodes, nodes}
use Rattle.lk_types.specs.declared.ty.Ty.{Ty}
use Rattle.lk_typing.specs.Steps.{equation_of, CanBeMet}
use Rattle.lk_typing.specs.declared.step.Said.{Said}
use Rattle.lk_typing.specs.declared.step.Said.TheVariants.{Same, Typed}
use Rattle.lk_typing.specs.declared.step.Step.{Step}
use Rattle.lk_unify.specs.Constraints.{AreFine, AreLarge, end_of}
use Rattle.lk_unify.specs.declared.constraint.Constraint.{Constraint}
use Rattle.lk_unify.specs.declared.constraint.Sizing.{Sizing}
use Rattle.lk_unify.specs.declared.constraint.Sizing.TheVariants.{Always, Late}

-- The sides of equations matter everywhere, the types of nodes where the last step is one for a node.
abbrev pub sizing_of : Said → Sizing
sizing_of (Same equation) = Always
sizing_of (Typed n t) = Late

abbrev pub constraint_of : Step → Constraint
constraint_of step = record { equation = equation_of step.said; sizing = sizing_of step.said }

abbrev pub constraints_of : List Step → List Constraint
constraints_of steps = map constraint_of steps

-- the last step is one for a node
abbrev pub EndsAtNode : List Step → Type 0
EndsAtNode steps = end_of (constraints_of steps) ≡ Some Late

-- whether one of these types is too large
abbrev pub some_large : List Ty → Bool
some_large types = list_any (λ t. nat_lt most_nodes (nodes t)) types

-- No type that matters is too large. `large` says whether one of a node in an earlier declaration is, which matters where the
-- last step is one for a node.
abbrev pub IsFine : Bool → List Step → Type 0
IsFine large steps = AreFine (constraints_of steps) × (EndsAtNode steps → large ≡ false)

abbrev pub AllFine : Bool → List Step → Type 0
AllFine large steps = (k : ℕ) → k ≤ length steps → IsFine large (take k steps)

-- what is said before here is fine, and with what is said here it can't hold
pub record IsIllTyped (large : Bool) (steps : List Step) (at : Span) : Type 0 where
  pub number : ℕ
  pub step : Step
  pub found : slice_get steps number ≡ Some step
  pub here : at ≡ step.at
  pub fine : AllFine large (take number steps)
  pub none : CanBeMet (take (number + 1) steps) → ⊥

-- what is said before here is fine, and with what is said here it can hold, and a type that matters is too large
pub record IsTooLarge (large : Bool) (steps : List Step) (at : Span) : Type 0 where
  pub number : ℕ
  pub step : Step
  pub found : slice_get steps number ≡ Some step
  pub here : at ≡ step.at
  pub fine : AllFine large (take number steps)
  pub some : CanBeMet (take (number + 1) steps)
  pub large_here : AreLarge (constraints_of (take (number + 1) steps)) ⊎ (EndsAtNode (take (number + 1) steps) × (large ≡ true))
