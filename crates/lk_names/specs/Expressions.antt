-- The names in an expression. Scope is static: a use of a name is bound by the nearest binder round it, so an inner name
-- hides an outer one (Aho, Lam, Sethi and Ullman, Compilers, 2006, section 1.6.3). Local names hide tables and functions too.
use Rattle.std.specs.Prelude.{ℕ, Bool, ◌&&◌, not, List, Option, Some, None, if◌then◌else◌}
use Rattle.lk_ast.specs.declared.expression.Case.{Case, fold-Case}
use Rattle.lk_ast.specs.declared.expression.ChangeExpr.{ChangeExpr, fold-ChangeExpr}
use Rattle.lk_ast.specs.declared.expression.Expr.{Expr, Expr-F, fold-Expr}
use Rattle.lk_ast.specs.declared.expression.LambdaExpr.{LambdaExpr, fold-LambdaExpr}
use Rattle.lk_ast.specs.declared.expression.LastCase.{LastCase, fold-LastCase}
use Rattle.lk_ast.specs.declared.expression.Node.{Node, fold-Node}
use Rattle.lk_ast.specs.declared.expression.Node.TheOpen.{Node-F, Case-F, ChangeExpr-F, LambdaExpr-F, LastCase-F, PartExpr-F}
use Rattle.lk_ast.specs.declared.expression.PartExpr.{PartExpr, fold-PartExpr}
use Rattle.lk_ast.specs.declared.place.Span.{Span}
use Rattle.lk_scope.specs.Names.{Names, no_names, is_local, bind, bind_all, bind_some}
use Rattle.lk_scope.specs.Scoped.{In, all_in}
use Rattle.lk_names.specs.Faults.{Fault, first_of, first_among}
use Rattle.lk_names.specs.Repeats.{Item, items_fault, words_fault, keys_fault}
use Rattle.lk_names.specs.declared.error.NameError.TheVariants.{Unbound}
use Rattle.lk_names.specs.declared.globals.Globals.{Globals}

-- a use of a name at this place, where the name has to be bound
abbrev pub unless_bound : Bool → Span → Fault
unless_bound bound span = if bound then None else Some (Unbound span)

-- as a local name, which has to be in scope
abbrev pub local_fault : Names → Span → List ℕ → Fault
local_fault names span x = unless_bound (is_local names x) span

-- as one of the tables, or of the functions, which has to be declared and which no local name may hide
abbrev pub global_fault : Names → Names → Span → List ℕ → Fault
global_fault declared names span x = unless_bound (is_local declared x && not (is_local names x)) span

-- ---- one level of an expression, its parts waiting for the local names in scope

-- `l = e`
abbrev pub part_in : PartExpr-F (Span → In Fault) (In Item) (In Fault) (In Fault) (In Fault) (In Fault) (In Item) → In Item
part_in part names = record { name = part.label; behind = part.expr names }

-- `fun (x, y) { body }`: the parameters are seen in the body
abbrev pub lambda_in : LambdaExpr-F (Span → In Fault) (In Item) (In Fault) (In Fault) (In Fault) (In Fault) (In Item) → In Fault
lambda_in lambda names = first_of (words_fault lambda.params) (lambda.body (bind_all lambda.params names))

-- `case T(x) -> body`, `case x -> body`: the name is seen in the body
abbrev pub case_in : Case-F (Span → In Fault) (In Item) (In Fault) (In Fault) (In Fault) (In Fault) (In Item) → In Item
case_in case names = record { name = case.tag; behind = case.body (bind_some case.name names) }

abbrev pub last_in : LastCase-F (Span → In Fault) (In Item) (In Fault) (In Fault) (In Fault) (In Fault) (In Item) → In Fault
last_in last names = last.body (bind last.name names)

abbrev pub some_in : Option (In Fault) → In Fault
some_in None names = None
some_in (Some last) names = last names

-- `(x <-- t) where (cond) set (l = e)`: the name is seen in the condition and in what is set
abbrev pub change_in : Globals → ChangeExpr-F (Span → In Fault) (In Item) (In Fault) (In Fault) (In Fault) (In Fault) (In Item) → In Fault
change_in globals change names =
    first_of (global_fault globals.tables names change.table.at change.table.text)
    (first_of (change.cond (bind change.name names)) (items_fault no_names (all_in (bind change.name names) change.sets)))

-- A name of `var` is seen in what follows, and one of `for` in its body.
abbrev pub node_in : Globals → Node-F (Span → In Fault) (In Item) (In Fault) (In Fault) (In Fault) (In Fault) (In Item) → Span → In Fault
node_in globals (Node-F.Int number) span names = None
node_in globals (Node-F.Text text) span names = None
node_in globals (Node-F.Bool truth) span names = None
node_in globals (Node-F.Name x) span names = local_fault names span x
node_in globals (Node-F.Function g) span names = global_fault globals.functions names span g
node_in globals (Node-F.Lambda lambda) span names = lambda names
node_in globals (Node-F.Call g args) span names = first_of (global_fault globals.functions names g.at g.text) (first_among (all_in names args))
node_in globals (Node-F.Apply f args) span names = first_of (f names) (first_among (all_in names args))
node_in globals (Node-F.Var x e rest) span names = first_of (e names) (rest (bind x names))
node_in globals (Node-F.Seq e rest) span names = first_of (e names) (rest names)
node_in globals (Node-F.If c d e) span names = first_of (c names) (first_of (d names) (e names))
node_in globals (Node-F.And a b) span names = first_of (a names) (b names)
node_in globals (Node-F.Or a b) span names = first_of (a names) (b names)
node_in globals (Node-F.Concat a b) span names = first_of (a names) (b names)
node_in globals (Node-F.Append a b) span names = first_of (a names) (b names)
node_in globals (Node-F.Cons a b) span names = first_of (a names) (b names)
node_in globals (Node-F.Add a b) span names = first_of (a names) (b names)
node_in globals (Node-F.Sub a b) span names = first_of (a names) (b names)
node_in globals (Node-F.Mul a b) span names = first_of (a names) (b names)
node_in globals (Node-F.Div a b) span names = first_of (a names) (b names)
node_in globals (Node-F.Mod a b) span names = first_of (a names) (b names)
node_in globals (Node-F.Eq a b) span names = first_of (a names) (b names)
node_in globals (Node-F.Ne a b) span names = first_of (a names) (b names)
node_in globals (Node-F.Lt a b) span names = first_of (a names) (b names)
node_in globals (Node-F.Le a b) span names = first_of (a names) (b names)
node_in globals (Node-F.Gt a b) span names = first_of (a names) (b names)
node_in globals (Node-F.Ge a b) span names = first_of (a names) (b names)
node_in globals (Node-F.Neg e) span names = e names
node_in globals (Node-F.Not e) span names = e names
node_in globals (Node-F.Hd e) span names = e names
node_in globals (Node-F.Tl e) span names = e names
node_in globals (Node-F.Empty e) span names = e names
node_in globals (Node-F.IntToString e) span names = e names
node_in globals (Node-F.Print e) span names = e names
node_in globals (Node-F.Record parts) span names = items_fault no_names (all_in names parts)
node_in globals (Node-F.Extend parts e) span names = first_of (items_fault no_names (all_in names parts)) (e names)
node_in globals (Node-F.List items) span names = first_among (all_in names items)
node_in globals (Node-F.Project e l) span names = e names
node_in globals (Node-F.Tag t e) span names = e names
node_in globals (Node-F.Switch e cases last) span names = first_of (e names) (first_of (items_fault no_names (all_in names cases)) (some_in last names))
node_in globals (Node-F.ForList x e body) span names = first_of (e names) (body (bind x names))
node_in globals (Node-F.ForTable x rows body) span names = first_of (rows names) (body (bind x names))
node_in globals (Node-F.Table t) span names = global_fault globals.tables names t.at t.text
node_in globals (Node-F.Where c e) span names = first_of (c names) (e names)
node_in globals (Node-F.Query keys e) span names = first_of (keys_fault keys) (e names)
node_in globals (Node-F.Insert t e) span names = first_of (global_fault globals.tables names t.at t.text) (e names)
node_in globals (Node-F.Update change) span names = change names
node_in globals (Node-F.Delete change) span names = change names

abbrev pub expr_in : Expr-F (Span → In Fault) (In Item) (In Fault) (In Fault) (In Fault) (In Fault) (In Item) → In Fault
expr_in e names = e.node e.span names

-- ---- whole expressions

-- the first fault of an expression in which these tables and functions are seen, under the local names in scope
abbrev pub fault : Globals → Expr → In Fault
fault globals = fold-Expr (Span → In Fault) (In Item) (In Fault) (In Fault) (In Fault) (In Fault) (In Item) (node_in globals) case_in (change_in globals) expr_in lambda_in last_in part_in

-- the same of what stands in an expression of this span, and of what stands there in lists
abbrev pub node_fault : Globals → Node → Span → In Fault
node_fault globals = fold-Node (Span → In Fault) (In Item) (In Fault) (In Fault) (In Fault) (In Fault) (In Item) (node_in globals) case_in (change_in globals) expr_in lambda_in last_in part_in

abbrev pub part_item : Globals → PartExpr → In Item
part_item globals = fold-PartExpr (Span → In Fault) (In Item) (In Fault) (In Fault) (In Fault) (In Fault) (In Item) (node_in globals) case_in (change_in globals) expr_in lambda_in last_in part_in

abbrev pub lambda_fault : Globals → LambdaExpr → In Fault
lambda_fault globals = fold-LambdaExpr (Span → In Fault) (In Item) (In Fault) (In Fault) (In Fault) (In Fault) (In Item) (node_in globals) case_in (change_in globals) expr_in lambda_in last_in part_in

abbrev pub case_item : Globals → Case → In Item
case_item globals = fold-Case (Span → In Fault) (In Item) (In Fault) (In Fault) (In Fault) (In Fault) (In Item) (node_in globals) case_in (change_in globals) expr_in lambda_in last_in part_in

abbrev pub last_fault : Globals → LastCase → In Fault
last_fault globals = fold-LastCase (Span → In Fault) (In Item) (In Fault) (In Fault) (In Fault) (In Fault) (In Item) (node_in globals) case_in (change_in globals) expr_in lambda_in last_in part_in

abbrev pub change_fault : Globals → ChangeExpr → In Fault
change_fault globals = fold-ChangeExpr (Span → In Fault) (In Item) (In Fault) (In Fault) (In Fault) (In Fault) (In Item) (node_in globals) case_in (change_in globals) expr_in lambda_in last_in part_in
