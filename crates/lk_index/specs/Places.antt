-- Where the functions of a program stand in its text, and its lambdas.
use Rattle.std.specs.Prelude.{◌≡◌, ℕ, Bool, ◌==◌, List, [], ◌∷◌, ◌++◌, Option, Some, None, find, map}
use Rattle.std.specs.Borrow.{Bor}
use Rattle.std.specs.Option.{option_map}
use Rattle.lk_ast.specs.Functions.{functions_of}
use Rattle.lk_ast.specs.declared.declaration.FunDef.{FunDef}
use Rattle.lk_ast.specs.declared.declaration.Program.{Program}
use Rattle.lk_ast.specs.declared.expression.Case.{Case, para-Case}
use Rattle.lk_ast.specs.declared.expression.ChangeExpr.{ChangeExpr, para-ChangeExpr}
use Rattle.lk_ast.specs.declared.expression.Expr.{Expr, Expr-F, para-Expr}
use Rattle.lk_ast.specs.declared.expression.LambdaExpr.{LambdaExpr, para-LambdaExpr}
use Rattle.lk_ast.specs.declared.expression.LastCase.{LastCase, para-LastCase}
use Rattle.lk_ast.specs.declared.expression.Node.{Node, para-Node}
use Rattle.lk_ast.specs.declared.expression.Node.TheOpen.{Node-F, Case-F, ChangeExpr-F, LambdaExpr-F, LastCase-F, PartExpr-F}
use Rattle.lk_ast.specs.declared.expression.PartExpr.{PartExpr, para-PartExpr}

-- a lambda, and the place where it begins
pub record PlacedLambda : Type 0 where
  pub site : ℕ
  pub lambda : LambdaExpr

-- lambdas in text order, each before those in its body
abbrev pub Lambdas : Type 0
Lambdas = List PlacedLambda

-- what the lambdas before a part of the text become with those in it
abbrev pub Gather : Type 0
Gather = Lambdas → Lambdas

-- parts that stand one after another
abbrev pub gather_all : {X : Type 0} → List (X × Gather) → Gather
gather_all [] found = found
gather_all (part ∷ parts) found = gather_all parts (part.1 found)

abbrev pub gather_some : {X : Type 0} → Option (X × Gather) → Gather
gather_some None found = found
gather_some (Some part) found = part.1 found

-- parts, each with the lambdas in it
abbrev pub each_with : {X : Type 0} → (X → Gather) → List X → List (X × Gather)
each_with of parts = map (λ part. (part, of part)) parts

-- ---- one level of an expression, each part with the lambdas in it

abbrev pub part_in : PartExpr-F (Node × (ℕ → Gather)) (Case × Gather) (ChangeExpr × Gather) (Expr × Gather) (LambdaExpr × Gather) (LastCase × Gather) (PartExpr × Gather) → Gather
part_in part = part.expr.1

abbrev pub lambda_in : LambdaExpr-F (Node × (ℕ → Gather)) (Case × Gather) (ChangeExpr × Gather) (Expr × Gather) (LambdaExpr × Gather) (LastCase × Gather) (PartExpr × Gather) → Gather
lambda_in lambda = lambda.body.1

abbrev pub case_in : Case-F (Node × (ℕ → Gather)) (Case × Gather) (ChangeExpr × Gather) (Expr × Gather) (LambdaExpr × Gather) (LastCase × Gather) (PartExpr × Gather) → Gather
case_in case = case.body.1

abbrev pub last_in : LastCase-F (Node × (ℕ → Gather)) (Case × Gather) (ChangeExpr × Gather) (Expr × Gather) (LambdaExpr × Gather) (LastCase × Gather) (PartExpr × Gather) → Gather
last_in last = last.body.1

abbrev pub change_in : ChangeExpr-F (Node × (ℕ → Gather)) (Case × Gather) (ChangeExpr × Gather) (Expr × Gather) (LambdaExpr × Gather) (LastCase × Gather) (PartExpr × Gather) → Gather
change_in change found = gather_all change.sets (change.cond.1 found)

-- what stands in an expression that begins at this place
abbrev pub node_in : Node-F (Node × (ℕ → Gather)) (Case × Gather) (ChangeExpr × Gather) (Expr × Gather) (LambdaExpr × Gather) (LastCase × Gather) (PartExpr × Gather) → ℕ → Gather
node_in (Node-F.Int number) site found = found
node_in (Node-F.Text text) site found = found
node_in (Node-F.Bool truth) site found = found
node_in (Node-F.Name x) site found = found
node_in (Node-F.Function g) site found = found
node_in (Node-F.Lambda lambda) site found = lambda.1 (found ++ record { site = site; lambda = lambda.0 } ∷ [])
node_in (Node-F.Call g args) site found = gather_all args found
node_in (Node-F.Apply f args) site found = gather_all args (f.1 found)
node_in (Node-F.Var x e rest) site found = rest.1 (e.1 found)
node_in (Node-F.Seq e rest) site found = rest.1 (e.1 found)
node_in (Node-F.If c d e) site found = e.1 (d.1 (c.1 found))
node_in (Node-F.And a b) site found = b.1 (a.1 found)
node_in (Node-F.Or a b) site found = b.1 (a.1 found)
node_in (Node-F.Concat a b) site found = b.1 (a.1 found)
node_in (Node-F.Append a b) site found = b.1 (a.1 found)
node_in (Node-F.Cons a b) site found = b.1 (a.1 found)
node_in (Node-F.Add a b) site found = b.1 (a.1 found)
node_in (Node-F.Sub a b) site found = b.1 (a.1 found)
node_in (Node-F.Mul a b) site found = b.1 (a.1 found)
node_in (Node-F.Div a b) site found = b.1 (a.1 found)
node_in (Node-F.Mod a b) site found = b.1 (a.1 found)
node_in (Node-F.Eq a b) site found = b.1 (a.1 found)
node_in (Node-F.Ne a b) site found = b.1 (a.1 found)
node_in (Node-F.Lt a b) site found = b.1 (a.1 found)
node_in (Node-F.Le a b) site found = b.1 (a.1 found)
node_in (Node-F.Gt a b) site found = b.1 (a.1 found)
node_in (Node-F.Ge a b) site found = b.1 (a.1 found)
node_in (Node-F.Neg e) site found = e.1 found
node_in (Node-F.Not e) site found = e.1 found
node_in (Node-F.Hd e) site found = e.1 found
node_in (Node-F.Tl e) site found = e.1 found
node_in (Node-F.Empty e) site found = e.1 found
node_in (Node-F.IntToString e) site found = e.1 found
node_in (Node-F.Print e) site found = e.1 found
node_in (Node-F.Record parts) site found = gather_all parts found
node_in (Node-F.Extend parts e) site found = e.1 (gather_all parts found)
node_in (Node-F.List items) site found = gather_all items found
node_in (Node-F.Project e l) site found = e.1 found
node_in (Node-F.Tag t e) site found = e.1 found
node_in (Node-F.Switch e cases last) site found = gather_some last (gather_all cases (e.1 found))
node_in (Node-F.ForList x e body) site found = body.1 (e.1 found)
node_in (Node-F.ForTable x rows body) site found = body.1 (rows.1 found)
node_in (Node-F.Table t) site found = found
node_in (Node-F.Where c e) site found = e.1 (c.1 found)
node_in (Node-F.Query keys e) site found = e.1 found
node_in (Node-F.Insert t e) site found = e.1 found
node_in (Node-F.Update change) site found = change.1 found
node_in (Node-F.Delete change) site found = change.1 found

abbrev pub expr_in : Expr-F (Node × (ℕ → Gather)) (Case × Gather) (ChangeExpr × Gather) (Expr × Gather) (LambdaExpr × Gather) (LastCase × Gather) (PartExpr × Gather) → Gather
expr_in e = e.node.1 e.span.start

-- ---- whole expressions

-- the lambdas in an expression
abbrev pub gather : Expr → Gather
gather = para-Expr (ℕ → Gather) Gather Gather Gather Gather Gather Gather node_in case_in change_in expr_in lambda_in last_in part_in

-- the same of what stands in an expression that begins at this place
abbrev pub gather_node : Node → ℕ → Gather
gather_node = para-Node (ℕ → Gather) Gather Gather Gather Gather Gather Gather node_in case_in change_in expr_in lambda_in last_in part_in

abbrev pub gather_part : PartExpr → Gather
gather_part = para-PartExpr (ℕ → Gather) Gather Gather Gather Gather Gather Gather node_in case_in change_in expr_in lambda_in last_in part_in

abbrev pub gather_lambda : LambdaExpr → Gather
gather_lambda = para-LambdaExpr (ℕ → Gather) Gather Gather Gather Gather Gather Gather node_in case_in change_in expr_in lambda_in last_in part_in

abbrev pub gather_case : Case → Gather
gather_case = para-Case (ℕ → Gather) Gather Gather Gather Gather Gather Gather node_in case_in change_in expr_in lambda_in last_in part_in

abbrev pub gather_last : LastCase → Gather
gather_last = para-LastCase (ℕ → Gather) Gather Gather Gather Gather Gather Gather node_in case_in change_in expr_in lambda_in last_in part_in

abbrev pub gather_change : ChangeExpr → Gather
gather_change = para-ChangeExpr (ℕ → Gather) Gather Gather Gather Gather Gather Gather node_in case_in change_in expr_in lambda_in last_in part_in

-- ---- borrowed functions and lambdas

-- the functions behind references
abbrev pub shown : List (Bor FunDef) → List FunDef
shown functions = map (λ f. f.now) functions

-- the lambdas that pairs of a place and a reference show
abbrev pub seen : List (ℕ × Bor LambdaExpr) → Lambdas
seen found = map (λ f. record { site = f.0; lambda = f.1.now }) found

-- ---- programs

-- the lambdas in the bodies of functions, in text order
abbrev pub lambdas_of : List FunDef → Lambdas
lambdas_of functions = gather_all (each_with (λ (f : FunDef). gather f.body) functions) []

abbrev pub lambda_begins : ℕ → PlacedLambda → Bool
lambda_begins site placed = placed.site == site

-- the first lambda of a program that begins at this place
abbrev pub lambda_at : Program → ℕ → Option LambdaExpr
lambda_at program site = option_map (λ placed. placed.lambda) (find (lambda_begins site) (lambdas_of (functions_of program)))

abbrev pub name_begins : ℕ → FunDef → Bool
name_begins site f = f.name.at.start == site

-- the first function of a program whose name begins at this place
abbrev pub function_at : Program → ℕ → Option FunDef
function_at program site = find (name_begins site) (functions_of program)

-- ---- places of their own

-- a number that is none of these
abbrev pub IsNone : ℕ → List ℕ → Type 0
IsNone n [] = Unit {0}
IsNone n (m ∷ ms) = (n ≡ m → ⊥) × IsNone n ms

-- numbers of which no two are the same
abbrev pub AreApart : List ℕ → Type 0
AreApart [] = Unit {0}
AreApart (n ∷ ns) = IsNone n ns × AreApart ns

-- where the names of the functions of a program begin, and its lambdas
abbrev pub places_of : Program → List ℕ
places_of program = map (λ (f : FunDef). f.name.at.start) (functions_of program) ++ map (λ (placed : PlacedLambda). placed.site) (lambdas_of (functions_of program))

-- Each of them begins at a place of its own, so a place says which one is meant.
abbrev pub ArePlaced : Program → Type 0
ArePlaced program = AreApart (places_of program)
