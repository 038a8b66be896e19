-- What comes of making nodes of equations: nodes of all in an order in which parts come first, where they have a solution, or else a
-- number of first ones that have none.
use Rattle.std.specs.Prelude.{◌≤◌, List, length, take}
use Rattle.lk_types.specs.Solutions.{HasSolution}
use Rattle.lk_types.specs.declared.equation.Equation.{Equation}
use Rattle.lk_arena.specs.Counting.{IsPartsFirst}
use Rattle.lk_unify.specs.Solving.{AreLoaded, IsFirstWithout}
use Rattle.lk_unify.specs.declared.ordered.Attempt.{Attempt}
use Rattle.lk_unify.specs.declared.ordered.Attempt.TheVariants.{Solved, Unsolved}
use Rattle.lk_unify.specs.declared.ordered.Fault.{Fault}
use Rattle.lk_unify.specs.declared.ordered.Ordered.{Ordered}

-- The equations have a solution and are nodes, and the nodes are in an order in which parts come first.
pub record AreOrdered (nodes : Ordered) (equations : List Equation) : Type 0 where
  pub solution : HasSolution equations
  pub loaded : AreLoaded nodes.all.loader nodes.all.sides equations (length equations)
  pub order : IsPartsFirst nodes.all.loader.arena.shapes nodes.all.loader.arena.classes nodes.order.items

abbrev pub IsAttempt : Attempt → List Equation → Type 0
IsAttempt (Solved nodes) equations = AreOrdered nodes equations
IsAttempt (Unsolved count) equations = (count ≤ length equations) × (HasSolution (take count equations) → ⊥)

-- with the equation of this number those up to it have no solution, and those before it have these nodes
pub record IsFault (fault : Fault) (equations : List Equation) : Type 0 where
  pub first : IsFirstWithout equations fault.number
  pub before : AreOrdered fault.before (take fault.number equations)
