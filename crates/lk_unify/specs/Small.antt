-- Nodes that say equations, with the values that they have where each class of which nothing is known is a variable of its own. These
-- values tell how large the sides of the equations are under their most general solution.
use Rattle.std.specs.Prelude.{ℕ, List}
use Rattle.lk_types.specs.Variables.{equation_variables}
use Rattle.lk_types.specs.declared.equation.Equation.{Equation}
use Rattle.lk_arena.specs.Kinds.{Kind}
use Rattle.lk_unify.specs.Loading.{IsKinded}
use Rattle.lk_unify.specs.Models.{IsOwn}
use Rattle.lk_arena.specs.Order.{IsRanked}
use Rattle.lk_unify.specs.Reading.{IsNaming}
use Rattle.lk_unify.specs.Solving.{Says, AreBound}
use Rattle.lk_arena.specs.Values.{Value}
use Rattle.lk_unify.specs.declared.loader.Loader.{Loader}

-- nodes that say just these equations, and such values of theirs
pub record OwnNodes (equations : List Equation) : Type 0 where
  pub loader : Loader
  pub says : Says loader equations
  pub bound : AreBound loader (equation_variables equations)
  pub kind : ℕ → Kind
  pub kinded : IsKinded loader kind
  pub rank : ℕ → ℕ
  pub ranked : IsRanked loader.arena.shapes loader.arena.classes rank
  pub name : ℕ → ℕ
  pub owner : ℕ → ℕ
  pub naming : IsNaming loader kind name owner
  pub values : ℕ → Value
  pub own : IsOwn loader.arena.shapes loader.arena.classes name values
