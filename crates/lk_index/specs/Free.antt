-- The free local names of an expression, those that it uses and nothing in it binds (Barendregt, The Lambda Calculus, 1984,
-- section 2.1), where a name is bound in the part of the text that its binder says (Aho, Lam, Sethi and Ullman, Compilers,
-- 2006, section 1.6.3). A function value captures them.
use Rattle.std.specs.Prelude.{ℕ, List, [], ◌∷◌, ◌++◌, Option, Some, None, map, if◌then◌else◌}
use Rattle.std.specs.Borrow.{Bor}
use Rattle.std.specs.Cmp.Lexicographic.{slice_cmp}
use Rattle.std.specs.FinMap as finite
use Rattle.std.specs.List.{flat_map}
use Rattle.std.specs.Ordering.{nat_cmp}
use Rattle.std.specs.declared.cmp.Ordering.{Ordering}
use Rattle.lk_ast.specs.declared.expression.Case.{Case, fold-Case}
use Rattle.lk_ast.specs.declared.expression.ChangeExpr.{ChangeExpr, fold-ChangeExpr}
use Rattle.lk_ast.specs.declared.expression.Expr.{Expr, Expr-F, fold-Expr}
use Rattle.lk_ast.specs.declared.expression.LambdaExpr.{LambdaExpr, fold-LambdaExpr}
use Rattle.lk_ast.specs.declared.expression.LastCase.{LastCase, fold-LastCase}
use Rattle.lk_ast.specs.declared.expression.Node.{Node, fold-Node}
use Rattle.lk_ast.specs.declared.expression.Node.TheOpen.{Node-F, Case-F, ChangeExpr-F, LambdaExpr-F, LastCase-F, PartExpr-F}
use Rattle.lk_ast.specs.declared.expression.PartExpr.{PartExpr, fold-PartExpr}
use Rattle.lk_scope.specs.Names.{no_names, is_local, bind, bind_all, bind_some}
use Rattle.lk_scope.specs.Scoped.{In}

-- the names that a part of the text uses where these are bound round it, in text order, once for each use
abbrev pub Uses : Type 0
Uses = In (List (List ℕ))

-- a use of a name
abbrev pub use_of : List ℕ → Uses
use_of x bound = if is_local bound x then [] else x ∷ []

-- the uses in parts that stand one after another
abbrev pub all_uses : List Uses → Uses
all_uses parts bound = flat_map (λ uses. uses bound) parts

abbrev pub some_uses : Option Uses → Uses
some_uses None bound = []
some_uses (Some uses) bound = uses bound

-- ---- one level of an expression, its parts waiting for the names that are bound

-- `l = e`
abbrev pub part_in : PartExpr-F Uses Uses Uses Uses Uses Uses Uses → Uses
part_in part bound = part.expr bound

-- `fun (x, y) { body }`: the parameters are bound in the body
abbrev pub lambda_in : LambdaExpr-F Uses Uses Uses Uses Uses Uses Uses → Uses
lambda_in lambda bound = lambda.body (bind_all lambda.params bound)

-- `case T(x) -> body`, `case x -> body`: the name is bound in the body
abbrev pub case_in : Case-F Uses Uses Uses Uses Uses Uses Uses → Uses
case_in case bound = case.body (bind_some case.name bound)

abbrev pub last_in : LastCase-F Uses Uses Uses Uses Uses Uses Uses → Uses
last_in last bound = last.body (bind last.name bound)

-- `(x <-- t) where (cond) set (l = e)`: the name is bound in the condition and in what is set
abbrev pub change_in : ChangeExpr-F Uses Uses Uses Uses Uses Uses Uses → Uses
change_in change bound = change.cond (bind change.name bound) ++ all_uses change.sets (bind change.name bound)

-- A name of `var` is bound in what follows, and one of `for` in its body.
abbrev pub node_in : Node-F Uses Uses Uses Uses Uses Uses Uses → Uses
node_in (Node-F.Int number) bound = []
node_in (Node-F.Text text) bound = []
node_in (Node-F.Bool truth) bound = []
node_in (Node-F.Name x) bound = use_of x bound
node_in (Node-F.Function g) bound = []
node_in (Node-F.Lambda lambda) bound = lambda bound
node_in (Node-F.Call g args) bound = all_uses args bound
node_in (Node-F.Apply f args) bound = f bound ++ all_uses args bound
node_in (Node-F.Var x e rest) bound = e bound ++ rest (bind x bound)
node_in (Node-F.Seq e rest) bound = e bound ++ rest bound
node_in (Node-F.If c d e) bound = c bound ++ d bound ++ e bound
node_in (Node-F.And a b) bound = a bound ++ b bound
node_in (Node-F.Or a b) bound = a bound ++ b bound
node_in (Node-F.Concat a b) bound = a bound ++ b bound
node_in (Node-F.Append a b) bound = a bound ++ b bound
node_in (Node-F.Cons a b) bound = a bound ++ b bound
node_in (Node-F.Add a b) bound = a bound ++ b bound
node_in (Node-F.Sub a b) bound = a bound ++ b bound
node_in (Node-F.Mul a b) bound = a bound ++ b bound
node_in (Node-F.Div a b) bound = a bound ++ b bound
node_in (Node-F.Mod a b) bound = a bound ++ b bound
node_in (Node-F.Eq a b) bound = a bound ++ b bound
node_in (Node-F.Ne a b) bound = a bound ++ b bound
node_in (Node-F.Lt a b) bound = a bound ++ b bound
node_in (Node-F.Le a b) bound = a bound ++ b bound
node_in (Node-F.Gt a b) bound = a bound ++ b bound
node_in (Node-F.Ge a b) bound = a bound ++ b bound
node_in (Node-F.Neg e) bound = e bound
node_in (Node-F.Not e) bound = e bound
node_in (Node-F.Hd e) bound = e bound
node_in (Node-F.Tl e) bound = e bound
node_in (Node-F.Empty e) bound = e bound
node_in (Node-F.IntToString e) bound = e bound
node_in (Node-F.Print e) bound = e bound
node_in (Node-F.Record parts) bound = all_uses parts bound
node_in (Node-F.Extend parts e) bound = all_uses parts bound ++ e bound
node_in (Node-F.List items) bound = all_uses items bound
node_in (Node-F.Project e l) bound = e bound
node_in (Node-F.Tag t e) bound = e bound
node_in (Node-F.Switch e cases last) bound = e bound ++ all_uses cases bound ++ some_uses last bound
node_in (Node-F.ForList x e body) bound = e bound ++ body (bind x bound)
node_in (Node-F.ForTable x rows body) bound = rows bound ++ body (bind x bound)
node_in (Node-F.Table t) bound = []
node_in (Node-F.Where c e) bound = c bound ++ e bound
node_in (Node-F.Query keys e) bound = e bound
node_in (Node-F.Insert t e) bound = e bound
node_in (Node-F.Update change) bound = change bound
node_in (Node-F.Delete change) bound = change bound

abbrev pub expr_in : Expr-F Uses Uses Uses Uses Uses Uses Uses → Uses
expr_in e bound = e.node bound

-- ---- whole expressions

-- the local names that an expression uses and that neither it nor what is round it binds
abbrev pub free : Expr → Uses
free = fold-Expr Uses Uses Uses Uses Uses Uses Uses node_in case_in change_in expr_in lambda_in last_in part_in

-- the same of what stands in an expression
abbrev pub free_node : Node → Uses
free_node = fold-Node Uses Uses Uses Uses Uses Uses Uses node_in case_in change_in expr_in lambda_in last_in part_in

abbrev pub free_part : PartExpr → Uses
free_part = fold-PartExpr Uses Uses Uses Uses Uses Uses Uses node_in case_in change_in expr_in lambda_in last_in part_in

abbrev pub free_lambda : LambdaExpr → Uses
free_lambda = fold-LambdaExpr Uses Uses Uses Uses Uses Uses Uses node_in case_in change_in expr_in lambda_in last_in part_in

abbrev pub free_case : Case → Uses
free_case = fold-Case Uses Uses Uses Uses Uses Uses Uses node_in case_in change_in expr_in lambda_in last_in part_in

abbrev pub free_last : LastCase → Uses
free_last = fold-LastCase Uses Uses Uses Uses Uses Uses Uses node_in case_in change_in expr_in lambda_in last_in part_in

abbrev pub free_change : ChangeExpr → Uses
free_change = fold-ChangeExpr Uses Uses Uses Uses Uses Uses Uses node_in case_in change_in expr_in lambda_in last_in part_in

-- ---- what a function value captures

-- the texts of borrowed names
abbrev pub texts : List (Bor (List ℕ)) → List (List ℕ)
texts names = map (λ n. n.now) names

abbrev pub byte_order : Bor (List ℕ) → Bor (List ℕ) → Ordering
byte_order x y = slice_cmp nat_cmp x.now y.now

-- these words in byte order, each once: the keys of the finite map that has something at each of them
abbrev pub in_byte_order : List (List ℕ) → List (List ℕ)
in_byte_order words = finite.keys (finite.from_entries {R = slice_cmp nat_cmp} (map (λ word. (word, tt {0})) words))

-- the free names of a lambda in byte order, each once
abbrev pub captured : LambdaExpr → List (List ℕ)
captured lambda = in_byte_order (free_lambda lambda no_names)

-- the same of what a query or a change of a table captures
abbrev pub captured_query : Expr → List (List ℕ)
captured_query body = in_byte_order (free body no_names)

abbrev pub captured_change : ChangeExpr → List (List ℕ)
captured_change change = in_byte_order (free_change change no_names)
