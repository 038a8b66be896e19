-- The law of instances: over any answers a ground program comes to the same end as its program, with the same fuel, steps
-- and events, up to what function values stand for.
use Rattle.std.specs.Prelude.{◌≡◌, ℕ, List, Some}
use Rattle.lk_ast.specs.declared.table.Row.{Row}
use Rattle.lk_ast.specs.declared.value.Value.{Value}
use Rattle.lk_evaluation.specs.Laws.{Maybe, MatchingOuts}
use Rattle.lk_evaluation.specs.Run.{start}
use Rattle.lk_evaluation.specs.Source as source
use Rattle.lk_index.specs.Places.{ArePlaced}
use Rattle.lk_locals.specs.Names.{Names, lookup}
use Rattle.lk_sound.specs.Within.{IsFunctionOf, IsWithin}
use Rattle.lk_types.specs.Rows.{Label}
use Rattle.lk_ground.specs.Alike.{Alike}
use Rattle.lk_ground.specs.Language.{Point, function_of, instance, session}
use Rattle.lk_ground.specs.Standing.{StandsIn}
use Rattle.lk_ground.specs.declared.program.GroundFun.{GroundFun}
use Rattle.lk_ground.specs.declared.program.GroundProgram.{GroundProgram}

-- each instance is one of a function of the program, and its uses outside of queries, updates and deletions call instances of
-- the functions that they name
pub record AreInstances (p : GroundProgram) : Type 0 where
  pub declared : (i : ℕ) (f : GroundFun) → instance p i ≡ Some f → IsFunctionOf p.program.now (function_of f)
  pub stand : (i : ℕ) (f : GroundFun) → instance p i ≡ Some f → StandsIn p f (function_of f).body

-- names with values that stand for those of the same names
abbrev pub NamesAlike : GroundProgram → Names → Names → Type 0
NamesAlike p names others = (x : Label) → Maybe (Alike p) (lookup names x) (lookup others x)

-- a point in an instance stands for a point of the program: it is at the same expression
pub record IsPointOf (p : GroundProgram) (at : Point) (point : source.Point) : Type 0 where
  pub owner : GroundFun
  pub is : instance p at.owner ≡ Some owner
  pub expr : at.point.expr ≡ point.expr
  pub names : NamesAlike p at.point.names point.names
  pub stands : StandsIn p owner point.expr
  pub within : IsWithin p.program.now point.expr

abbrev pub InstancesLaw : Type 0
InstancesLaw = (p : GroundProgram) → ArePlaced p.program.now → AreInstances p → (main : GroundFun) → instance p 0 ≡ Some main
    → (arg : List ℕ) (fuel : ℕ) (answers : List (List Row)) → MatchingOuts (Alike p) Value Value (Alike p) (session p (function_of main) arg (start fuel answers)) (source.session p.program.now (function_of main) arg (start fuel answers))
