-- The constraints of a walk: types of which everything is to be read back, of which nothing is said, and then the steps.
use Rattle.std.specs.Prelude.{◌≡◌, ℕ, ◌+◌, ◌<◌, Bool, true, false, List, ◌++◌, length, map, take, Some, IsSome, slice_get}
use Rattle.lk_ast.specs.declared.place.Span.{Span}
use Rattle.lk_types.specs.Each.{Each}
use Rattle.lk_types.specs.Grounding.{Grounding, under}
use Rattle.lk_types.specs.declared.scheme.Scheme.{Scheme}
use Rattle.lk_types.specs.declared.ty.Ty.{Ty}
use Rattle.lk_typing.specs.Unknowns.{same}
use Rattle.lk_typing.specs.declared.step.Said.{Said}
use Rattle.lk_typing.specs.declared.step.Said.TheVariants.{Same, Typed}
use Rattle.lk_typing.specs.declared.step.Step.{Step}
use Rattle.lk_infer.specs.Generalised.{AreGeneralised}
use Rattle.lk_infer.specs.Refusals.{constraints_of}
use Rattle.lk_unify.specs.Constraints.{AreSides, equations_of}
use Rattle.lk_unify.specs.declared.constraint.Constraint.{Constraint}
use Rattle.lk_unify.specs.declared.constraint.Sizing.TheVariants.{Never}
use Rattle.lk_walk.specs.declared.group.GroupWalk.{GroupWalk}

-- a type that is only read back
abbrev pub asked : Ty → Constraint
asked t = record { equation = same t t; sizing = Never }

-- types of functions and of nodes before the steps
abbrev pub walk_constraints : GroupWalk → List Constraint
walk_constraints walk = map asked walk.functions ++ (map asked walk.nodes ++ constraints_of walk.steps)

abbrev pub places_of : List Step → List Span
places_of steps = map (λ step. step.at) steps

-- whatever stands for its variables it becomes a type
abbrev pub IsPlain : Ty → Type 0
IsPlain t = (σ : Grounding) → IsSome (under σ t)

-- a constraint that is one of so many steps, behind types that are only read back
abbrev pub IsNumber : ℕ → ℕ → ℕ → Type 0
IsNumber steps asked number = (j : ℕ) × (number ≡ asked + j) × (j < steps)

-- ---- steps for nodes

abbrev pub is_node : Said → Bool
is_node (Same equation) = false
is_node (Typed n t) = true

abbrev pub NoNodes : List Step → Type 0
NoNodes steps = Each (λ step. is_node step.said ≡ false) steps

-- the first step for a node is that of this number
pub record IsFirstNode (steps : List Step) (n : ℕ) : Type 0 where
  pub step : Step
  pub found : slice_get steps n ≡ Some step
  pub node : is_node step.said ≡ true
  pub before : NoNodes (take n steps)

-- ---- what is made of a walk

-- A most general solution gives the functions the types of which the schemes are made, and the nodes these types.
pub record IsSolved (walk : GroupWalk) (schemes : List Scheme) (types : List Ty) : Type 0 where
  pub bodies : List Ty
  pub rest : List Ty
  pub sides : AreSides (equations_of (walk_constraints walk)) (bodies ++ (types ++ rest))
  pub functions : length bodies ≡ length walk.functions
  pub nodes : length types ≡ length walk.nodes
  pub generalised : AreGeneralised (bodies ++ (types ++ rest)) bodies schemes
