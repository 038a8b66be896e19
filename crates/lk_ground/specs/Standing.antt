-- Expressions that stand in an instance: what they use and what is labelled in them is that of the instance.
use Rattle.std.specs.Prelude.{◌≡◌, ℕ, Some}
use Rattle.lk_ast.specs.Functions.{function_named}
use Rattle.lk_ast.specs.declared.expression.Expr.{Expr}
use Rattle.lk_types.specs.Each.{Each, OneOf}
use Rattle.lk_ground.specs.Language.{function_of, instance, called_in}
use Rattle.lk_ground.specs.Sites.{PlacedUse, outer_uses, labelled_in}
use Rattle.lk_ground.specs.declared.program.GroundFun.{GroundFun}
use Rattle.lk_ground.specs.declared.program.GroundProgram.{GroundProgram}

-- the use calls an instance of the function that it names
abbrev pub IsCalled : GroundProgram → GroundFun → PlacedUse → Type 0
IsCalled p f u = (j : ℕ) × (g : GroundFun) × (called_in (Some f) u.site ≡ Some j) × (instance p j ≡ Some g) × (function_named p.program.now u.name ≡ Some (function_of g))

-- its uses outside of queries, updates and deletions call what they name, and what is labelled in it is labelled in the instance
pub record StandsIn (p : GroundProgram) (f : GroundFun) (e : Expr) : Type 0 where
  pub calls : Each (IsCalled p f) (outer_uses e)
  pub labels : Each (λ site. OneOf (λ other. other ≡ site) (labelled_in (function_of f).body)) (labelled_in e)
