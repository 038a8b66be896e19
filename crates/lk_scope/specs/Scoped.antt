-- Which words of an expression are local names and which are functions of the program, by lexical scope: a name is seen in
-- the part of the text that its binder says, and nowhere else (Aho, Lam, Sethi and Ullman, Compilers, 2006, section 1.6.3).
use Rattle.std.specs.Prelude.{ℕ, List, Option, Some, None, map, if◌then◌else◌}
use Rattle.std.specs.Option.{option_map}
use Rattle.lk_ast.specs.Layers.{Layer}
use Rattle.lk_ast.specs.declared.declaration.Decl.{Decl}
use Rattle.lk_ast.specs.declared.declaration.Decl.TheVariants as decl
use Rattle.lk_ast.specs.declared.declaration.FunDef.{FunDef}
use Rattle.lk_ast.specs.declared.declaration.Program.{Program}
use Rattle.lk_ast.specs.declared.expression.Case.{Case, fold-Case}
use Rattle.lk_ast.specs.declared.expression.ChangeExpr.{ChangeExpr, roll-ChangeExpr, fold-ChangeExpr}
use Rattle.lk_ast.specs.declared.expression.Expr.{Expr, Expr-F, fold-Expr}
use Rattle.lk_ast.specs.declared.expression.LambdaExpr.{LambdaExpr, fold-LambdaExpr}
use Rattle.lk_ast.specs.declared.expression.LastCase.{LastCase, fold-LastCase}
use Rattle.lk_ast.specs.declared.expression.Node.{Node, out-Node, fold-Node}
use Rattle.lk_ast.specs.declared.expression.Node.TheOpen.{Node-F, Case-F, ChangeExpr-F, LambdaExpr-F, LastCase-F, PartExpr-F}
use Rattle.lk_ast.specs.declared.expression.Node.TheVariants as node
use Rattle.lk_ast.specs.declared.expression.PartExpr.{PartExpr, fold-PartExpr}
use Rattle.lk_scope.specs.Names.{Names, no_names, is_local, bind, bind_all, bind_some}

-- something that depends on the names in scope
abbrev pub In : Type 0 → Type 0
In X = Names → X

abbrev pub all_in : {X : Type 0} → Names → List (In X) → List X
all_in names parts = map (λ part. part names) parts

-- a word is the local name where one of that word is in scope, else a function of the program
abbrev pub word_node : Names → List ℕ → Node
word_node names x = if is_local names x then node.Name x else node.Function x

-- the function of the program that an expression is the name of
abbrev pub function_in : Layer → Option (List ℕ)
function_in (Node-F.Function g) = Some g
function_in other = None

-- what is called is a function of the program where it is the name of one, else a value
abbrev pub call_by : Option (List ℕ) → Expr → List Expr → Node
call_by (Some g) f args = node.Call (record { at = f.span; text = g }) args
call_by None f args = node.Apply f args

abbrev pub call_node : Expr → List Expr → Node
call_node f args = call_by (function_in (out-Node f.node)) f args

-- ---- one level of an expression, its parts waiting for the names in scope

-- `l = e`
abbrev pub part_in : PartExpr-F (In Node) (In Case) (In ChangeExpr) (In Expr) (In LambdaExpr) (In LastCase) (In PartExpr) → In PartExpr
part_in part names = record { label = part.label; expr = part.expr names }

-- `fun (x, y) { body }`: the parameters are seen in the body
abbrev pub lambda_in : LambdaExpr-F (In Node) (In Case) (In ChangeExpr) (In Expr) (In LambdaExpr) (In LastCase) (In PartExpr) → In LambdaExpr
lambda_in lambda names = record { params = lambda.params; place = lambda.place; body = lambda.body (bind_all lambda.params names) }

-- `case T(x) -> body`, `case x -> body`: the name is seen in the body
abbrev pub case_in : Case-F (In Node) (In Case) (In ChangeExpr) (In Expr) (In LambdaExpr) (In LastCase) (In PartExpr) → In Case
case_in case names = record { tag = case.tag; name = case.name; body = case.body (bind_some case.name names) }

abbrev pub last_in : LastCase-F (In Node) (In Case) (In ChangeExpr) (In Expr) (In LambdaExpr) (In LastCase) (In PartExpr) → In LastCase
last_in last names = record { name = last.name; body = last.body (bind last.name names) }

-- `(x <-- t) where (cond) set (l = e)`: the name is seen in the condition and in what is set
abbrev pub change_in : ChangeExpr-F (In Node) (In Case) (In ChangeExpr) (In Expr) (In LambdaExpr) (In LastCase) (In PartExpr) → In ChangeExpr
change_in change names = roll-ChangeExpr (record { name = change.name; table = change.table; cond = change.cond (bind change.name names); sets = all_in (bind change.name names) change.sets })

-- A name of `var` is seen in what follows, and one of `for` in its body.
abbrev pub node_in : Node-F (In Node) (In Case) (In ChangeExpr) (In Expr) (In LambdaExpr) (In LastCase) (In PartExpr) → In Node
node_in (Node-F.Int number) names = node.Int number
node_in (Node-F.Text text) names = node.Text text
node_in (Node-F.Bool truth) names = node.Bool truth
node_in (Node-F.Name x) names = word_node names x
node_in (Node-F.Function g) names = node.Function g
node_in (Node-F.Lambda lambda) names = node.Lambda (lambda names)
node_in (Node-F.Call g args) names = node.Call g (all_in names args)
node_in (Node-F.Apply f args) names = call_node (f names) (all_in names args)
node_in (Node-F.Var x e rest) names = node.Var x (e names) (rest (bind x names))
node_in (Node-F.Seq e rest) names = node.Seq (e names) (rest names)
node_in (Node-F.If c d e) names = node.If (c names) (d names) (e names)
node_in (Node-F.And a b) names = node.And (a names) (b names)
node_in (Node-F.Or a b) names = node.Or (a names) (b names)
node_in (Node-F.Concat a b) names = node.Concat (a names) (b names)
node_in (Node-F.Append a b) names = node.Append (a names) (b names)
node_in (Node-F.Cons a b) names = node.Cons (a names) (b names)
node_in (Node-F.Add a b) names = node.Add (a names) (b names)
node_in (Node-F.Sub a b) names = node.Sub (a names) (b names)
node_in (Node-F.Mul a b) names = node.Mul (a names) (b names)
node_in (Node-F.Div a b) names = node.Div (a names) (b names)
node_in (Node-F.Mod a b) names = node.Mod (a names) (b names)
node_in (Node-F.Eq a b) names = node.Eq (a names) (b names)
node_in (Node-F.Ne a b) names = node.Ne (a names) (b names)
node_in (Node-F.Lt a b) names = node.Lt (a names) (b names)
node_in (Node-F.Le a b) names = node.Le (a names) (b names)
node_in (Node-F.Gt a b) names = node.Gt (a names) (b names)
node_in (Node-F.Ge a b) names = node.Ge (a names) (b names)
node_in (Node-F.Neg e) names = node.Neg (e names)
node_in (Node-F.Not e) names = node.Not (e names)
node_in (Node-F.Hd e) names = node.Hd (e names)
node_in (Node-F.Tl e) names = node.Tl (e names)
node_in (Node-F.Empty e) names = node.Empty (e names)
node_in (Node-F.IntToString e) names = node.IntToString (e names)
node_in (Node-F.Print e) names = node.Print (e names)
node_in (Node-F.Record parts) names = node.Record (all_in names parts)
node_in (Node-F.Extend parts e) names = node.Extend (all_in names parts) (e names)
node_in (Node-F.List items) names = node.List (all_in names items)
node_in (Node-F.Project e l) names = node.Project (e names) l
node_in (Node-F.Tag t e) names = node.Tag t (e names)
node_in (Node-F.Switch e cases last) names = node.Switch (e names) (all_in names cases) (option_map (λ case. case names) last)
node_in (Node-F.ForList x e body) names = node.ForList x (e names) (body (bind x names))
node_in (Node-F.ForTable x rows body) names = node.ForTable x (rows names) (body (bind x names))
node_in (Node-F.Table t) names = node.Table t
node_in (Node-F.Where c e) names = node.Where (c names) (e names)
node_in (Node-F.Query keys e) names = node.Query keys (e names)
node_in (Node-F.Insert t e) names = node.Insert t (e names)
node_in (Node-F.Update change) names = node.Update (change names)
node_in (Node-F.Delete change) names = node.Delete (change names)

abbrev pub expr_in : Expr-F (In Node) (In Case) (In ChangeExpr) (In Expr) (In LambdaExpr) (In LastCase) (In PartExpr) → In Expr
expr_in e names = record { span = e.span; node = e.node names }

-- ---- whole expressions and programs

-- an expression under the names in scope
abbrev pub scoped : Expr → In Expr
scoped = fold-Expr (In Node) (In Case) (In ChangeExpr) (In Expr) (In LambdaExpr) (In LastCase) (In PartExpr) node_in case_in change_in expr_in lambda_in last_in part_in

-- what stands in an expression
abbrev pub scoped_node : Node → In Node
scoped_node = fold-Node (In Node) (In Case) (In ChangeExpr) (In Expr) (In LambdaExpr) (In LastCase) (In PartExpr) node_in case_in change_in expr_in lambda_in last_in part_in

abbrev pub scoped_part : PartExpr → In PartExpr
scoped_part = fold-PartExpr (In Node) (In Case) (In ChangeExpr) (In Expr) (In LambdaExpr) (In LastCase) (In PartExpr) node_in case_in change_in expr_in lambda_in last_in part_in

abbrev pub scoped_lambda : LambdaExpr → In LambdaExpr
scoped_lambda = fold-LambdaExpr (In Node) (In Case) (In ChangeExpr) (In Expr) (In LambdaExpr) (In LastCase) (In PartExpr) node_in case_in change_in expr_in lambda_in last_in part_in

abbrev pub scoped_case : Case → In Case
scoped_case = fold-Case (In Node) (In Case) (In ChangeExpr) (In Expr) (In LambdaExpr) (In LastCase) (In PartExpr) node_in case_in change_in expr_in lambda_in last_in part_in

abbrev pub scoped_last : LastCase → In LastCase
scoped_last = fold-LastCase (In Node) (In Case) (In ChangeExpr) (In Expr) (In LambdaExpr) (In LastCase) (In PartExpr) node_in case_in change_in expr_in lambda_in last_in part_in

abbrev pub scoped_change : ChangeExpr → In ChangeExpr
scoped_change = fold-ChangeExpr (In Node) (In Case) (In ChangeExpr) (In Expr) (In LambdaExpr) (In LastCase) (In PartExpr) node_in case_in change_in expr_in lambda_in last_in part_in

-- the parameters of a function are seen in its body
abbrev pub scoped_function : FunDef → FunDef
scoped_function f = record { name = f.name; sig = f.sig; params = f.params; place = f.place; body = scoped f.body (bind_all f.params no_names) }

abbrev pub scoped_decl : Decl → Decl
scoped_decl (decl.Table table) = decl.Table table
scoped_decl (decl.Fun f) = decl.Fun (scoped_function f)
scoped_decl (decl.Mutual fs) = decl.Mutual (map scoped_function fs)

abbrev pub scoped_program : Program → Program
scoped_program program = record { decls = map scoped_decl program.decls }
