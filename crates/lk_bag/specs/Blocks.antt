-- The queries, readings of tables and changes in a program's text, each by the place where it begins.
use Rattle.std.specs.Prelude.{ℕ, Bool, true, false, List, [], ◌∷◌, ◌++◌, Option, Some, None, find, map, ◌==◌, if◌then◌else◌}
use Rattle.std.specs.List.{flat_map}
use Rattle.lk_ast.specs.Children.{children}
use Rattle.lk_ast.specs.Functions.{functions_of}
use Rattle.lk_ast.specs.declared.declaration.FunDef.{FunDef}
use Rattle.lk_ast.specs.declared.declaration.Program.{Program}
use Rattle.lk_ast.specs.declared.expression.Case.{Case}
use Rattle.lk_ast.specs.declared.expression.ChangeExpr.{ChangeExpr}
use Rattle.lk_ast.specs.declared.expression.Expr.{Expr, Expr-F, para-Expr}
use Rattle.lk_ast.specs.declared.expression.LambdaExpr.{LambdaExpr}
use Rattle.lk_ast.specs.declared.expression.LastCase.{LastCase}
use Rattle.lk_ast.specs.declared.expression.Node.{Node, out-Node}
use Rattle.lk_ast.specs.declared.expression.Node.TheOpen.{Node-F, Case-F, ChangeExpr-F, LambdaExpr-F, LastCase-F, PartExpr-F}
use Rattle.lk_ast.specs.declared.expression.PartExpr.{PartExpr}
use Rattle.lk_index.specs.Places.{AreApart}

-- whether a node reads or changes tables
abbrev pub acts_on_tables : {N C H E L S P : Type 0} → Node-F N C H E L S P → Bool
acts_on_tables (Node-F.Table t) = true
acts_on_tables (Node-F.Query keys e) = true
acts_on_tables (Node-F.Insert t e) = true
acts_on_tables (Node-F.Update change) = true
acts_on_tables (Node-F.Delete change) = true
acts_on_tables other = false

-- ---- one level of an expression, each part with what acts on tables in it

abbrev Found : Type 0
Found = List Expr

abbrev found_in : {X : Type 0} → X × Found → Found
found_in part = part.1

abbrev case_in : Case-F (Node × Found) (Case × Found) (ChangeExpr × Found) (Expr × Found) (LambdaExpr × Found) (LastCase × Found) (PartExpr × Found) → Found
case_in case = case.body.1

abbrev change_in : ChangeExpr-F (Node × Found) (Case × Found) (ChangeExpr × Found) (Expr × Found) (LambdaExpr × Found) (LastCase × Found) (PartExpr × Found) → Found
change_in change = change.cond.1 ++ flat_map found_in change.sets

abbrev lambda_in : LambdaExpr-F (Node × Found) (Case × Found) (ChangeExpr × Found) (Expr × Found) (LambdaExpr × Found) (LastCase × Found) (PartExpr × Found) → Found
lambda_in lambda = lambda.body.1

abbrev last_in : LastCase-F (Node × Found) (Case × Found) (ChangeExpr × Found) (Expr × Found) (LambdaExpr × Found) (LastCase × Found) (PartExpr × Found) → Found
last_in last = last.body.1

abbrev part_in : PartExpr-F (Node × Found) (Case × Found) (ChangeExpr × Found) (Expr × Found) (LambdaExpr × Found) (LastCase × Found) (PartExpr × Found) → Found
part_in part = part.expr.1

abbrev node_in : Node-F (Node × Found) (Case × Found) (ChangeExpr × Found) (Expr × Found) (LambdaExpr × Found) (LastCase × Found) (PartExpr × Found) → Found
node_in node = children found_in found_in found_in found_in found_in found_in node

abbrev itself : Expr → Bool → Found → Found
itself e true found = e ∷ found
itself e false found = found

abbrev expr_in : Expr-F (Node × Found) (Case × Found) (ChangeExpr × Found) (Expr × Found) (LambdaExpr × Found) (LastCase × Found) (PartExpr × Found) → Found
expr_in e = itself (record { span = e.span; node = e.node.0 }) (acts_on_tables (out-Node e.node.0)) e.node.1

-- what acts on tables in an expression, in text order, each before what stands in it
unfoldable pub blocks_in : Expr → List Expr
blocks_in = para-Expr Found Found Found Found Found Found Found node_in case_in change_in expr_in lambda_in last_in part_in

-- ---- programs

-- those of a program, in text order
abbrev pub blocks_of : Program → List Expr
blocks_of p = flat_map (λ (f : FunDef). blocks_in f.body) (functions_of p)

abbrev pub begins : ℕ → Expr → Bool
begins site block = block.span.start == site

-- the first that begins at this place
abbrev pub block_at : Program → ℕ → Option Expr
block_at p site = find (begins site) (blocks_of p)

-- each begins at a place of its own, as in the program of a text
abbrev pub AreBlocksApart : Program → Type 0
AreBlocksApart p = AreApart (map (λ (block : Expr). block.span.start) (blocks_of p))
