-- The outline of an expression: its nodes in text order, each before those in it, with what matters for their types: which
-- function one uses, which nodes are the arguments of a call, which node binds a name, and what stands round it. It says
-- nothing of types, so one outline serves all instances of a function. Nodes are told by their numbers in the outline.
use Rattle.std.specs.Prelude.{ℕ, ◌+◌, Bool, true, false, List, [], ◌∷◌, ◌++◌, Option, Some, None, length}
use Rattle.lk_ast.specs.declared.expression.Case.{Case, fold-Case}
use Rattle.lk_ast.specs.declared.expression.ChangeExpr.{ChangeExpr, fold-ChangeExpr}
use Rattle.lk_ast.specs.declared.expression.Expr.{Expr, Expr-F, fold-Expr}
use Rattle.lk_ast.specs.declared.expression.LambdaExpr.{LambdaExpr, fold-LambdaExpr}
use Rattle.lk_ast.specs.declared.expression.LastCase.{LastCase, fold-LastCase}
use Rattle.lk_ast.specs.declared.expression.Node.{Node, fold-Node}
use Rattle.lk_ast.specs.declared.expression.Node.TheOpen.{Node-F, Case-F, ChangeExpr-F, LambdaExpr-F, LastCase-F, PartExpr-F}
use Rattle.lk_ast.specs.declared.expression.PartExpr.{PartExpr, fold-PartExpr}
use Rattle.lk_ast.specs.declared.place.Span.{Span}
use Rattle.lk_ast.specs.declared.place.Word.{Word}
use Rattle.lk_types.specs.Rows.{Label}
use Rattle.lk_typing.specs.Names.{Named, named}

-- whose effects an expression has: those of the function, of a lambda in it, of a query, or of a change of a table
pub data Around : Type 0 where
  Function : Around
  Lambda : (number : ℕ) → Around
  Query : Around
  Change : Around

-- what a node is
pub data Kind : Type 0 where
  -- a use of a function that isn't called
  Function : (name : Label) → Kind
  -- a call of a function with these nodes as its arguments
  Call : (name : Label) (args : List ℕ) → Kind
  -- `==` or `<>`, and an order, whose left operand is that node
  Equality : (operand : ℕ) → Kind
  Order : (operand : ℕ) → Kind
  -- a local name that is bound by the node before that number; 0 is for a parameter of the function
  Name : (binder : ℕ) → Kind
  -- a query in which that many nodes stand, and an update or a deletion
  Query : (nodes : ℕ) → Kind
  Change : (nodes : ℕ) → Kind
  Other : Kind

pub record Site : Type 0 where
  pub number : ℕ
  pub span : Span
  pub kind : Kind
  pub around : Around
  -- whether it stands inside a query, an update or a deletion
  pub inside : Bool

-- what stands round an expression, and the numbers of the binders of the names that are seen in it
pub record Context : Type 0 where
  pub around : Around
  pub inside : Bool
  pub scope : Named ℕ

-- the outline of a part of the text that stands in this context, its nodes numbered from there
abbrev pub In : Type 0
In = Context → ℕ → List Site

abbrev pub nothing : In
nothing c n = []

-- one part after another
abbrev pub before : In → In → In
before first rest c n = first c n ++ rest c (n + length (first c n))

abbrev pub all : List In → In
all [] = nothing
all (part ∷ parts) = before part (all parts)

-- the numbers of the first nodes of parts one after another
abbrev pub starts : List In → Context → ℕ → List ℕ
starts [] c n = []
starts (part ∷ parts) c n = n ∷ starts parts c (n + length (part c n))

-- ---- contexts

-- the names of these words are bound by the node before that number
abbrev pub with_names : List Word → ℕ → Named ℕ → Named ℕ
with_names [] binder scope = scope
with_names (x ∷ words) binder scope = (x.text, binder) ∷ with_names words binder scope

abbrev pub with_some : Option Word → ℕ → Named ℕ → Named ℕ
with_some None binder scope = scope
with_some (Some x) binder scope = (x.text, binder) ∷ scope

abbrev pub where_bound : (Named ℕ → Named ℕ) → In → In
where_bound bind part c = part (record { around = c.around; inside = c.inside; scope = bind c.scope })

abbrev pub in_lambda : (Named ℕ → Named ℕ) → ℕ → In → In
in_lambda bind number part c = part (record { around = Lambda number; inside = c.inside; scope = bind c.scope })

abbrev pub in_block : Around → In → In
in_block around part c = part (record { around = around; inside = true; scope = c.scope })

-- the binder of a name
abbrev pub binder_of : Option ℕ → ℕ
binder_of None = 0
binder_of (Some binder) = binder

-- ---- one level of an expression

-- a node, and then what stands in it
abbrev pub site : Span → Kind → Context → ℕ → List Site → List Site
site span kind c n inside = record { number = n; span = span; kind = kind; around = c.around; inside = c.inside } ∷ inside

-- the same where its kind says nothing of what stands in it
abbrev pub plain : Span → Kind → In → In
plain span kind part c n = site span kind c n (part c (1 + n))

abbrev pub call : Span → Label → List In → In
call span g args c n = site span (Call g (starts args c (1 + n))) c n (all args c (1 + n))

-- a query or a change with as many nodes as stand in it
abbrev pub block : Span → (ℕ → Kind) → In → In
block span kind part c n = site span (kind (length (part c (1 + n)))) c n (part c (1 + n))

-- parts that may bind names for the node before that number
abbrev pub Bound : Type 0
Bound = ℕ → In

abbrev pub all_bound : List Bound → ℕ → In
all_bound [] binder = nothing
all_bound (part ∷ parts) binder = before (part binder) (all_bound parts binder)

abbrev pub some_bound : Option Bound → ℕ → In
some_bound None binder = nothing
some_bound (Some part) binder = part binder

-- the body of a lambda which is the node of that number, and the others with their binder's number
abbrev pub lambda_in : LambdaExpr-F (Span → In) Bound Bound In Bound Bound In → Bound
lambda_in lambda number = in_lambda (with_names lambda.params (1 + number)) number lambda.body

abbrev pub case_in : Case-F (Span → In) Bound Bound In Bound Bound In → Bound
case_in case binder = where_bound (with_some case.name binder) case.body

abbrev pub last_in : LastCase-F (Span → In) Bound Bound In Bound Bound In → Bound
last_in last binder = where_bound (with_names (last.name ∷ []) binder) last.body

abbrev pub part_in : PartExpr-F (Span → In) Bound Bound In Bound Bound In → In
part_in part = part.expr

abbrev pub change_in : ChangeExpr-F (Span → In) Bound Bound In Bound Bound In → Bound
change_in change binder = where_bound (with_names (change.name ∷ []) binder) (before change.cond (all change.sets))

-- a part, and another one in which the node binds a name
abbrev pub binding : Word → In → In → ℕ → In
binding x e body number = before e (where_bound (with_names (x ∷ []) (1 + number)) body)

abbrev pub numbered : Span → (ℕ → In) → In
numbered span part c n = plain span Other (part n) c n

abbrev pub node_in : Node-F (Span → In) Bound Bound In Bound Bound In → Span → In
node_in (Node-F.Int number) span c n = plain span Other nothing c n
node_in (Node-F.Text text) span c n = plain span Other nothing c n
node_in (Node-F.Bool truth) span c n = plain span Other nothing c n
node_in (Node-F.Name x) span c n = plain span (Name (binder_of (named x c.scope))) nothing c n
node_in (Node-F.Function g) span c n = plain span (Function g) nothing c n
node_in (Node-F.Lambda lambda) span c n = numbered span lambda c n
node_in (Node-F.Call g args) span c n = call span g.text args c n
node_in (Node-F.Apply f args) span c n = plain span Other (before f (all args)) c n
node_in (Node-F.Var x e rest) span c n = numbered span (binding x e rest) c n
node_in (Node-F.Seq e rest) span c n = plain span Other (before e rest) c n
node_in (Node-F.If test first other) span c n = plain span Other (before test (before first other)) c n
node_in (Node-F.And a b) span c n = plain span Other (before a b) c n
node_in (Node-F.Or a b) span c n = plain span Other (before a b) c n
node_in (Node-F.Concat a b) span c n = plain span Other (before a b) c n
node_in (Node-F.Append a b) span c n = plain span Other (before a b) c n
node_in (Node-F.Cons a b) span c n = plain span Other (before a b) c n
node_in (Node-F.Add a b) span c n = plain span Other (before a b) c n
node_in (Node-F.Sub a b) span c n = plain span Other (before a b) c n
node_in (Node-F.Mul a b) span c n = plain span Other (before a b) c n
node_in (Node-F.Div a b) span c n = plain span Other (before a b) c n
node_in (Node-F.Mod a b) span c n = plain span Other (before a b) c n
node_in (Node-F.Eq a b) span c n = plain span (Equality (1 + n)) (before a b) c n
node_in (Node-F.Ne a b) span c n = plain span (Equality (1 + n)) (before a b) c n
node_in (Node-F.Lt a b) span c n = plain span (Order (1 + n)) (before a b) c n
node_in (Node-F.Le a b) span c n = plain span (Order (1 + n)) (before a b) c n
node_in (Node-F.Gt a b) span c n = plain span (Order (1 + n)) (before a b) c n
node_in (Node-F.Ge a b) span c n = plain span (Order (1 + n)) (before a b) c n
node_in (Node-F.Neg e) span c n = plain span Other e c n
node_in (Node-F.Not e) span c n = plain span Other e c n
node_in (Node-F.Hd e) span c n = plain span Other e c n
node_in (Node-F.Tl e) span c n = plain span Other e c n
node_in (Node-F.Empty e) span c n = plain span Other e c n
node_in (Node-F.IntToString e) span c n = plain span Other e c n
node_in (Node-F.Print e) span c n = plain span Other e c n
node_in (Node-F.Record parts) span c n = plain span Other (all parts) c n
node_in (Node-F.Extend parts e) span c n = plain span Other (before (all parts) e) c n
node_in (Node-F.List items) span c n = plain span Other (all items) c n
node_in (Node-F.Project e l) span c n = plain span Other e c n
node_in (Node-F.Tag t e) span c n = plain span Other e c n
node_in (Node-F.Switch e cases last) span c n = plain span Other (before e (before (all_bound cases (1 + n)) (some_bound last (1 + n)))) c n
node_in (Node-F.ForList x e body) span c n = numbered span (binding x e body) c n
node_in (Node-F.ForTable x rows body) span c n = numbered span (binding x rows body) c n
node_in (Node-F.Table t) span c n = plain span Other nothing c n
node_in (Node-F.Where test e) span c n = plain span Other (before test e) c n
node_in (Node-F.Query keys e) span c n = block span Query (in_block Query e) c n
node_in (Node-F.Insert t e) span c n = plain span Other e c n
node_in (Node-F.Update change) span c n = block span Change (in_block Change (change (1 + n))) c n
node_in (Node-F.Delete change) span c n = block span Change (in_block Change (change (1 + n))) c n

abbrev pub expr_in : Expr-F (Span → In) Bound Bound In Bound Bound In → In
expr_in e = e.node e.span

-- ---- whole expressions

unfoldable pub outline : Expr → In
outline = fold-Expr (Span → In) Bound Bound In Bound Bound In node_in case_in change_in expr_in lambda_in last_in part_in

unfoldable pub outline_node : Node → Span → In
outline_node = fold-Node (Span → In) Bound Bound In Bound Bound In node_in case_in change_in expr_in lambda_in last_in part_in

unfoldable pub outline_part : PartExpr → In
outline_part = fold-PartExpr (Span → In) Bound Bound In Bound Bound In node_in case_in change_in expr_in lambda_in last_in part_in

unfoldable pub outline_lambda : LambdaExpr → Bound
outline_lambda = fold-LambdaExpr (Span → In) Bound Bound In Bound Bound In node_in case_in change_in expr_in lambda_in last_in part_in

unfoldable pub outline_case : Case → Bound
outline_case = fold-Case (Span → In) Bound Bound In Bound Bound In node_in case_in change_in expr_in lambda_in last_in part_in

unfoldable pub outline_last : LastCase → Bound
outline_last = fold-LastCase (Span → In) Bound Bound In Bound Bound In node_in case_in change_in expr_in lambda_in last_in part_in

unfoldable pub outline_change : ChangeExpr → Bound
outline_change = fold-ChangeExpr (Span → In) Bound Bound In Bound Bound In node_in case_in change_in expr_in lambda_in last_in part_in

-- the outline of a function's body
abbrev pub body_context : List Word → Context
body_context params = record { around = Function; inside = false; scope = with_names params 0 [] }

abbrev pub body_outline : List Word → Expr → List Site
body_outline params body = outline body (body_context params) 0
