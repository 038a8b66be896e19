-- The lambdas in a part of the text, by those in its parts.
use Rattle.std.proofs.Common.{◌≡◌, ℕ, Option, Some, None, ap, sym, ◌∙◌}
use Rattle.lk_ast.specs.Layers.{Layer, before, statement_node}
use Rattle.lk_ast.specs.declared.expression.Case.{Case, para-roll-Case}
use Rattle.lk_ast.specs.declared.expression.ChangeExpr.{ChangeExpr, out-ChangeExpr, roll-out-ChangeExpr, para-roll-ChangeExpr}
use Rattle.lk_ast.specs.declared.expression.Expr.{Expr, para-roll-Expr}
use Rattle.lk_ast.specs.declared.expression.LambdaExpr.{LambdaExpr, para-roll-LambdaExpr}
use Rattle.lk_ast.specs.declared.expression.LastCase.{LastCase, para-roll-LastCase}
use Rattle.lk_ast.specs.declared.expression.Node.{Node, out-Node, roll-Node, roll-out-Node, para-roll-Node}
use Rattle.lk_ast.specs.declared.expression.Node.TheFolds.{map-Node}
use Rattle.lk_ast.specs.declared.expression.Node.TheOpen.{Node-F}
use Rattle.lk_ast.specs.declared.expression.Node.TheVariants as node
use Rattle.lk_ast.specs.declared.expression.PartExpr.{PartExpr, para-roll-PartExpr}
use Rattle.lk_ast.specs.declared.place.Word.{Word}
use Rattle.lk_ast.specs.declared.statements.Statement.{Statement}
use Rattle.lk_index.specs.Places.{Gather, Lambdas, gather_all, each_with, node_in, case_in, change_in, expr_in, lambda_in, last_in, part_in, gather, gather_node, gather_part, gather_lambda, gather_case, gather_last, gather_change}

pub expr_level : (e : Expr) (found : Lambdas) → gather e found ≡ gather_node e.node e.span.start found
expr_level e found = ap (λ f. f found) (para-roll-Expr (ℕ → Gather) Gather Gather Gather Gather Gather Gather node_in case_in change_in expr_in lambda_in last_in part_in (record { span = e.span; node = e.node }))

pub part_level : (part : PartExpr) (found : Lambdas) → gather_part part found ≡ gather part.expr found
part_level part found = ap (λ f. f found) (para-roll-PartExpr (ℕ → Gather) Gather Gather Gather Gather Gather Gather node_in case_in change_in expr_in lambda_in last_in part_in (record { label = part.label; expr = part.expr }))

pub lambda_level : (lambda : LambdaExpr) (found : Lambdas) → gather_lambda lambda found ≡ gather lambda.body found
lambda_level lambda found = ap (λ f. f found) (para-roll-LambdaExpr (ℕ → Gather) Gather Gather Gather Gather Gather Gather node_in case_in change_in expr_in lambda_in last_in part_in (record { params = lambda.params; place = lambda.place; body = lambda.body }))

pub case_level : (case : Case) (found : Lambdas) → gather_case case found ≡ gather case.body found
case_level case found = ap (λ f. f found) (para-roll-Case (ℕ → Gather) Gather Gather Gather Gather Gather Gather node_in case_in change_in expr_in lambda_in last_in part_in (record { tag = case.tag; name = case.name; body = case.body }))

pub last_level : (last : LastCase) (found : Lambdas) → gather_last last found ≡ gather last.body found
last_level last found = ap (λ f. f found) (para-roll-LastCase (ℕ → Gather) Gather Gather Gather Gather Gather Gather node_in case_in change_in expr_in lambda_in last_in part_in (record { name = last.name; body = last.body }))

pub change_level : (change : ChangeExpr) (found : Lambdas) → gather_change change found ≡ gather_all (each_with gather_part (out-ChangeExpr change).sets) (gather (out-ChangeExpr change).cond found)
change_level change found = ap (λ c. gather_change c found) (sym (roll-out-ChangeExpr change)) ∙ ap (λ f. f found) (para-roll-ChangeExpr (ℕ → Gather) Gather Gather Gather Gather Gather Gather node_in case_in change_in expr_in lambda_in last_in part_in (out-ChangeExpr change))

-- a node with the lambdas in each of its parts
abbrev with_gathered : Layer → Node-F (Node × (ℕ → Gather)) (Case × Gather) (ChangeExpr × Gather) (Expr × Gather) (LambdaExpr × Gather) (LastCase × Gather) (PartExpr × Gather)
with_gathered l = map-Node _ _ _ _ _ _ _ _ _ _ _ _ _ _ (λ n. (n, gather_node n)) (λ n. (n, gather_case n)) (λ n. (n, gather_change n)) (λ n. (n, gather n)) (λ n. (n, gather_lambda n)) (λ n. (n, gather_last n)) (λ n. (n, gather_part n)) l

roll_level : (l : Layer) → gather_node (roll-Node l) ≡ node_in (with_gathered l)
roll_level l = para-roll-Node (ℕ → Gather) Gather Gather Gather Gather Gather Gather node_in case_in change_in expr_in lambda_in last_in part_in l

pub node_level : (n : Node) (site : ℕ) (found : Lambdas) → gather_node n site found ≡ node_in (with_gathered (out-Node n)) site found
node_level n site found = ap (λ m. gather_node m site found) (sym (roll-out-Node n)) ∙ ap (λ f. f site found) (roll_level (out-Node n))

-- a statement, and what follows
pub before_level : (s : Statement) (next : Expr) (found : Lambdas) → gather (before s next) found ≡ gather next (gather s.expr found)
before_level s next found = expr_level _ found ∙ by_name s.name s.expr next s.span.start
  where
    by_name : (name : Option Word) (bound next : Expr) (site : ℕ) → gather_node (statement_node name bound next) site found ≡ gather next (gather bound found)
    by_name None bound next site = ap (λ n. gather_node n site found) (sym (node.rolls-Seq bound next)) ∙ ap (λ f. f site found) (roll_level (Node-F.Seq bound next))
    by_name (Some x) bound next site = ap (λ n. gather_node n site found) (sym (node.rolls-Var x bound next)) ∙ ap (λ f. f site found) (roll_level (Node-F.Var x bound next))

pub node_is : (n : Node) (l : Layer) → n ≡ roll-Node l → (site : ℕ) (found : Lambdas) → gather_node n site found ≡ node_in (with_gathered l) site found
node_is n l is site found = ap (λ m. gather_node m site found) is ∙ ap (λ f. f site found) (roll_level l)
