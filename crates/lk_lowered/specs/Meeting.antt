-- Which nodes of a table stand for which points of a ground program.
use Rattle.std.specs.Prelude.{◌≡◌, ℕ, ◌+◌, List, ◌++◌, Some, map, drop, length}
use Rattle.lk_ast.specs.declared.declaration.Program.{Program}
use Rattle.lk_ast.specs.declared.expression.Expr.{Expr}
use Rattle.lk_bag.specs.Blocks.{blocks_in, blocks_of}
use Rattle.lk_ground.specs.Language as language
use Rattle.lk_ground.specs.Language.{Labelled, Site, function_of, instance, labels}
use Rattle.lk_ground.specs.Sites.{PlacedUse, uses_in, labelled_in}
use Rattle.lk_ground.specs.declared.program.GroundFun.{GroundFun}
use Rattle.lk_ground.specs.declared.program.GroundProgram.{GroundProgram}
use Rattle.lk_ir.specs.Environments.{Env}
use Rattle.lk_ir.specs.Environments as numbered
use Rattle.lk_ir.specs.LetNormal as forms
use Rattle.lk_ir.specs.declared.nodes.Forms.{Forms}
use Rattle.lk_locals.specs.Names.{Names, lookup}
use Rattle.lk_lower.specs.Lowering.{IsLocal, IsLowered, Pending}
use Rattle.lk_sound.specs.Within.{IsWithin}
use Rattle.lk_types.specs.Each.{Each, OneOf}

-- names and numbers that stand for the same values
abbrev pub AreAlike : Forms → Names → Env → Type 0
AreAlike f names scope = (n : ℕ) (x : List ℕ) → IsLocal f n x → lookup names x ≡ numbered.lookup scope n

-- ---- in the program

abbrev pub IsBlockOf : Program → Expr → Type 0
IsBlockOf p block = OneOf (λ other. other ≡ block) (blocks_of p)

-- all lambdas in it, and all that acts on tables, are those of the program
pub record IsInside (p : Program) (e : Expr) : Type 0 where
  pub lambdas : IsWithin p e
  pub blocks : Each (IsBlockOf p) (blocks_in e)

-- ---- in an instance

-- these uses and labels come next in an instance
pub record Stands (g : GroundProgram) (i : ℕ) (us : List PlacedUse) (ls : List ℕ) (p : Pending) : Type 0 where
  pub fun : GroundFun
  pub there : instance g i ≡ Some fun
  pub uses_front : List PlacedUse
  pub uses_back : List PlacedUse
  pub uses : uses_in (function_of fun).body ≡ uses_front ++ (us ++ uses_back)
  pub calls : p.calls ≡ drop (length uses_front) fun.calls
  pub labels_front : List Labelled
  pub labels_back : List Labelled
  pub labelled : labels g ≡ labels_front ++ (map (Site i) ls ++ labels_back)
  pub label : p.label ≡ 1 + length labels_front

-- the node with this number is what the expression is lowered to, where it stands in this instance
pub record Ready (g : GroundProgram) (f : Forms) (i : ℕ) (e : Expr) (n : ℕ) : Type 0 where
  pub within : ℕ
  pub before : Pending
  pub after : Pending
  pub lowered : IsLowered f i within e before n after
  pub stands : Stands g i (uses_in e) (labelled_in e) before
  pub inside : IsInside g.program.now e

-- a point of an instance and a node: the node is what the expression is lowered to there, and the names have the same values
pub record Meets (g : GroundProgram) (f : Forms) (at : language.Point) (q : forms.Point) : Type 0 where
  pub names : AreAlike f at.point.names q.names
  pub ready : Ready g f at.owner at.point.expr q.node
