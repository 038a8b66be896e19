-- One level of the syntax tree, and trees made level by level.
use Rattle.std.specs.Prelude.{Bool, true, false, List, [], ◌∷◌, Option, Some, None}
use Rattle.lk_ast.specs.declared.expression.Case.{Case}
use Rattle.lk_ast.specs.declared.expression.ChangeExpr.{ChangeExpr}
use Rattle.lk_ast.specs.declared.expression.Expr.{Expr}
use Rattle.lk_ast.specs.declared.expression.LambdaExpr.{LambdaExpr}
use Rattle.lk_ast.specs.declared.expression.LastCase.{LastCase}
use Rattle.lk_ast.specs.declared.expression.Node.{Node, out-Node}
use Rattle.lk_ast.specs.declared.expression.Node.TheOpen.{Node-F}
use Rattle.lk_ast.specs.declared.expression.Node.TheVariants as node
use Rattle.lk_ast.specs.declared.expression.PartExpr.{PartExpr}
use Rattle.lk_ast.specs.declared.place.Word.{Word}
use Rattle.lk_ast.specs.declared.statements.Statement.{Statement}

-- a node with the expressions in it
abbrev pub Layer : Type 0
Layer = Node-F Node Case ChangeExpr Expr LambdaExpr LastCase PartExpr

abbrev pub layer : Expr → Layer
layer e = out-Node e.node

-- ---- operators with other operands

-- the node with these two operands in place of its own, of an operator with two; a `where` of any other node
abbrev pub with_operands : Layer → Expr → Expr → Node
with_operands (Node-F.Seq c d) a b = node.Seq a b
with_operands (Node-F.And c d) a b = node.And a b
with_operands (Node-F.Or c d) a b = node.Or a b
with_operands (Node-F.Concat c d) a b = node.Concat a b
with_operands (Node-F.Append c d) a b = node.Append a b
with_operands (Node-F.Cons c d) a b = node.Cons a b
with_operands (Node-F.Add c d) a b = node.Add a b
with_operands (Node-F.Sub c d) a b = node.Sub a b
with_operands (Node-F.Mul c d) a b = node.Mul a b
with_operands (Node-F.Div c d) a b = node.Div a b
with_operands (Node-F.Mod c d) a b = node.Mod a b
with_operands (Node-F.Eq c d) a b = node.Eq a b
with_operands (Node-F.Ne c d) a b = node.Ne a b
with_operands (Node-F.Lt c d) a b = node.Lt a b
with_operands (Node-F.Le c d) a b = node.Le a b
with_operands (Node-F.Gt c d) a b = node.Gt a b
with_operands (Node-F.Ge c d) a b = node.Ge a b
with_operands other a b = node.Where a b

-- the node with this operand in place of its own, of an operator or a function of the language with one; a `print` of any
-- other node
abbrev pub with_operand : Layer → Expr → Node
with_operand (Node-F.Neg d) e = node.Neg e
with_operand (Node-F.Not d) e = node.Not e
with_operand (Node-F.Hd d) e = node.Hd e
with_operand (Node-F.Tl d) e = node.Tl e
with_operand (Node-F.Empty d) e = node.Empty e
with_operand (Node-F.IntToString d) e = node.IntToString e
with_operand other e = node.Print e

-- ---- statements, and the expression behind them

-- whether an expression is a block with statements
abbrev pub is_statement : Layer → Bool
is_statement (Node-F.Var x e rest) = true
is_statement (Node-F.Seq e rest) = true
is_statement other = false

-- what a statement and the expression of what follows make
abbrev pub statement_node : Option Word → Expr → Expr → Node
statement_node (Some x) e rest = node.Var x e rest
statement_node None e rest = node.Seq e rest

-- a statement, and what follows
abbrev pub before : Statement → Expr → Expr
before s rest = record { span = s.span; node = statement_node s.name s.expr rest }

abbrev pub chain : List Statement → Expr → Expr
chain [] last = last
chain (s ∷ ss) last = before s (chain ss last)
