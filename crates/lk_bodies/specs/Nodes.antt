-- How many nodes an expression has, where those of a call are also those of the body that it calls; and what is left of so many
-- nodes behind it.
use Rattle.std.specs.Prelude.{ℕ, zero, suc, ◌+◌, ◌-◌, List, [], ◌∷◌, Option, Some, None, length, map, nat_le, if◌then◌else◌}
use Rattle.lk_ast.specs.Children.{children}
use Rattle.lk_ast.specs.Functions.{functions_of, function_named}
use Rattle.lk_ast.specs.declared.declaration.FunDef.{FunDef}
use Rattle.lk_ast.specs.declared.declaration.Program.{Program}
use Rattle.lk_ast.specs.declared.expression.Expr.{Expr, Expr-F, fold-Expr}
use Rattle.lk_ast.specs.declared.expression.Node.TheOpen.{Node-F, Case-F, ChangeExpr-F, LambdaExpr-F, LastCase-F, PartExpr-F}
use Rattle.lk_types.specs.Rows.{Label}

abbrev pub total : List ℕ → ℕ
total [] = 0
total (n ∷ ns) = n + total ns

-- what is left of so many, where that many are taken; none where there are more
unfoldable pub spent : ℕ → ℕ → Option ℕ
spent most n = if nat_le n most then Some (most - n) else None

-- ---- one level of an expression, each part with its nodes

abbrev pub one : ℕ → List ℕ
one n = n ∷ []

abbrev pub case_nodes : Case-F ℕ ℕ ℕ ℕ ℕ ℕ ℕ → ℕ
case_nodes case = case.body

abbrev pub change_nodes : ChangeExpr-F ℕ ℕ ℕ ℕ ℕ ℕ ℕ → ℕ
change_nodes change = change.cond + total change.sets

-- an expression is a node, too
abbrev pub expr_nodes : Expr-F ℕ ℕ ℕ ℕ ℕ ℕ ℕ → ℕ
expr_nodes e = 1 + e.node

abbrev pub lambda_nodes : LambdaExpr-F ℕ ℕ ℕ ℕ ℕ ℕ ℕ → ℕ
lambda_nodes lambda = lambda.body

abbrev pub last_nodes : LastCase-F ℕ ℕ ℕ ℕ ℕ ℕ ℕ → ℕ
last_nodes last = last.body

abbrev pub part_nodes : PartExpr-F ℕ ℕ ℕ ℕ ℕ ℕ ℕ → ℕ
part_nodes part = part.expr

module _ (calls : Label → ℕ) where
  -- those of the parts, and of the body of what is called
  abbrev pub node_nodes : Node-F ℕ ℕ ℕ ℕ ℕ ℕ ℕ → ℕ
  node_nodes (Node-F.Call g args) = calls g.text + total args
  node_nodes other = total (children one one one one one one other)

  unfoldable pub nodes : Expr → ℕ
  nodes = fold-Expr ℕ ℕ ℕ ℕ ℕ ℕ ℕ node_nodes case_nodes change_nodes expr_nodes lambda_nodes last_nodes part_nodes

-- ---- programs

module _ (p : Program) where
  abbrev pub counted_function : (Label → ℕ) → Option FunDef → ℕ
  counted_function calls None = 0
  counted_function calls (Some f) = nodes calls f.body

  -- the nodes of the body of the function of that name, where so many calls may stand one in the other
  unfoldable pub counted : ℕ → Label → ℕ
  counted zero g = 0
  counted (suc n) g = counted_function (counted n) (function_named p g)

  -- The nodes of a query. A function that one calls doesn't call itself, so that no more calls stand one in the other than the
  -- program has functions.
  abbrev pub query_nodes : Expr → ℕ
  query_nodes e = nodes (counted (length (functions_of p))) e
