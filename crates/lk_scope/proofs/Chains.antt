-- The tree of a block under the names in scope, statement by statement.
use Rattle.std.proofs.Common.{◌≡◌, List, [], ◌∷◌, ◌++◌, Option, Some, None, sym, ap, ◌∙◌}
use Rattle.lk_ast.proofs.Chains.{chain_last}
use Rattle.lk_ast.specs.Layers.{Layer, before, chain}
use Rattle.lk_ast.specs.declared.expression.Expr.{Expr, fold_out-Expr}
use Rattle.lk_ast.specs.declared.expression.Case.{Case}
use Rattle.lk_ast.specs.declared.expression.ChangeExpr.{ChangeExpr}
use Rattle.lk_ast.specs.declared.expression.LambdaExpr.{LambdaExpr}
use Rattle.lk_ast.specs.declared.expression.LastCase.{LastCase}
use Rattle.lk_ast.specs.declared.expression.Node.{Node, roll-Node}
use Rattle.lk_ast.specs.declared.expression.Node.TheFolds.{fold-roll-Node, map-Node}
use Rattle.lk_ast.specs.declared.expression.Node.TheOpen.{Node-F}
use Rattle.lk_ast.specs.declared.expression.Node.TheVariants as node
use Rattle.lk_ast.specs.declared.expression.PartExpr.{PartExpr}
use Rattle.lk_ast.specs.declared.place.Span.{Span}
use Rattle.lk_ast.specs.declared.place.Word.{Word}
use Rattle.lk_ast.specs.declared.statements.Statement.{Statement}
use Rattle.lk_scope.specs.Names.{Names, bind_some}
use Rattle.lk_scope.specs.Scoped.{In, node_in, case_in, change_in, expr_in, lambda_in, last_in, part_in, scoped, scoped_node, scoped_case, scoped_change, scoped_lambda, scoped_last, scoped_part}

abbrev before_node : Span → Node → Expr
before_node span n = record { span = span; node = n }

scoped_layer : (l : Layer) → scoped_node (roll-Node l) ≡ node_in (map-Node _ _ _ _ _ _ _ _ _ _ _ _ _ _ scoped_node scoped_case scoped_change scoped scoped_lambda scoped_last scoped_part l)
scoped_layer l = fold-roll-Node (In Node) (In Case) (In ChangeExpr) (In Expr) (In LambdaExpr) (In LastCase) (In PartExpr) node_in case_in change_in expr_in lambda_in last_in part_in l

scoped_expr : (e : Expr) → scoped e ≡ (λ names. record { span = e.span; node = scoped_node e.node names })
scoped_expr e = fold_out-Expr (In Node) (In Case) (In ChangeExpr) (In Expr) (In LambdaExpr) (In LastCase) (In PartExpr) node_in case_in change_in expr_in lambda_in last_in part_in e

scoped_before : (span : Span) (name : Option Word) (bound next : Expr) (names : Names)
    → scoped (before (record { span = span; name = name; expr = bound }) next) names ≡ before (record { span = span; name = name; expr = scoped bound names }) (scoped next (bind_some name names))
scoped_before span None bound next names = ap (λ f. f names) (scoped_expr _) ∙ ap (λ f. before_node span (f names)) (ap scoped_node (sym (node.rolls-Seq bound next)) ∙ scoped_layer (Node-F.Seq bound next))
scoped_before span (Some x) bound next names = ap (λ f. f names) (scoped_expr _) ∙ ap (λ f. before_node span (f names)) (ap scoped_node (sym (node.rolls-Var x bound next)) ∙ scoped_layer (Node-F.Var x bound next))

-- one more statement is resolved, and what is left is what follows it
pub statement_step : (all ss : List Statement) (span : Span) (copy name : Option Word) (made bound rest next whole : Expr) (names inner left : Names)
    → all ≡ ss ++ record { span = span; name = copy; expr = made } ∷ [] → copy ≡ name → made ≡ scoped bound names → inner ≡ bind_some name left → left ≡ names
    → rest ≡ before (record { span = span; name = name; expr = bound }) next → chain ss (scoped rest names) ≡ whole → chain all (scoped next inner) ≡ whole
statement_step all ss span copy name made bound rest next whole names inner left pushed copied resolved entered same is was =
    chain_last all ss _ _ pushed
    ∙ (λ i. chain ss (before (record { span = span; name = copied i; expr = resolved i }) (scoped next ((entered ∙ ap (bind_some name) same) i))))
    ∙ ap (chain ss) (sym (scoped_before span name bound next names))
    ∙ ap (λ (e : Expr). chain ss (scoped e names)) (sym is)
    ∙ was
