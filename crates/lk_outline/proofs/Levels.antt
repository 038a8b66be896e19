-- The outline of an expression, by its parts.
use Rattle.std.proofs.Common.{◌≡◌, ℕ, Bool, ◌+◌, List, ◌∷◌, Option, Some, None, length, map, ◌⊎◌, inl, inr, ap, ap₂, sym, ◌∙◌}
use Rattle.std.specs.Prelude.{ℤ}
use Rattle.std.specs.Option.{option_map}
use Rattle.lk_ast.specs.Layers.{Layer, before, statement_node}
use Rattle.lk_ast.specs.declared.expression.Case.{Case, fold_out-Case}
use Rattle.lk_ast.specs.declared.expression.ChangeExpr.{ChangeExpr, out-ChangeExpr, fold_out-ChangeExpr}
use Rattle.lk_ast.specs.declared.expression.Expr.{Expr, fold_out-Expr}
use Rattle.lk_ast.specs.declared.expression.LambdaExpr.{LambdaExpr, fold_out-LambdaExpr}
use Rattle.lk_ast.specs.declared.expression.LastCase.{LastCase, fold_out-LastCase}
use Rattle.lk_ast.specs.declared.expression.PartExpr.{PartExpr, fold_out-PartExpr}
use Rattle.lk_ast.specs.declared.expression.Node.{Node, roll-Node, fold-roll-Node}
use Rattle.lk_ast.specs.declared.expression.Node.TheFolds.{map-Node}
use Rattle.lk_ast.specs.declared.expression.Node.TheOpen.{Node-F}
use Rattle.lk_ast.specs.declared.expression.Node.TheVariants as node
use Rattle.lk_ast.specs.declared.place.Span.{Span}
use Rattle.lk_ast.specs.declared.place.Word.{Word}
use Rattle.lk_ast.specs.declared.statements.Statement.{Statement}
use Rattle.lk_ast.specs.declared.text.Text.{Text}
use Rattle.lk_typing.specs.Names.{Named}
use Rattle.lk_outline.specs.Outline.{Bound, Context, In, Kind, Site, all, all_bound, binding, case_in, change_in, expr_in, in_lambda, lambda_in, last_in, node_in, nothing, numbered, outline, outline_case, outline_change, outline_lambda, outline_last, outline_node, outline_part, part_in, plain, some_bound, with_names, with_some}
use Rattle.lk_outline.specs.Outline as parts
use Rattle.lk_outline.specs.Walked.{noted, put, put_all, seen, unsaid}
use Rattle.lk_outline.specs.declared.site.Around.TheVariants as around
use Rattle.lk_outline.specs.declared.walk.Round.{Round}
use Rattle.lk_outline.proofs.Put.{binding_put, noted_length, noted_part, put_all_is, put_before}

pub expr_level : (e : Expr) → outline e ≡ outline_node e.node e.span
unfolding outline outline_node
expr_level e = fold_out-Expr (Span → In) Bound Bound In Bound Bound In node_in case_in change_in expr_in lambda_in last_in part_in e

pub seq_level : (e rest : Expr) (span : Span) → outline_node (node.Seq e rest) span ≡ plain span unsaid (parts.before (outline e) (outline rest))
unfolding outline outline_node
seq_level e rest span = ap (λ n. outline_node n span) (sym (node.rolls-Seq e rest)) ∙ ap (λ f. f span) (fold-roll-Node (Span → In) Bound Bound In Bound Bound In node_in case_in change_in expr_in lambda_in last_in part_in (Node-F.Seq e rest))

pub var_level : (x : Word) (e rest : Expr) (span : Span) → outline_node (node.Var x e rest) span ≡ numbered span (binding x (outline e) (outline rest))
unfolding outline outline_node
var_level x e rest span = ap (λ n. outline_node n span) (sym (node.rolls-Var x e rest)) ∙ ap (λ f. f span) (fold-roll-Node (Span → In) Bound Bound In Bound Bound In node_in case_in change_in expr_in lambda_in last_in part_in (Node-F.Var x e rest))

-- a node with the outline of each of its parts
abbrev pub with_outlines : Layer → Node-F (Span → In) Bound Bound In Bound Bound In
with_outlines l = map-Node Node Case ChangeExpr Expr LambdaExpr LastCase PartExpr (Span → In) Bound Bound In Bound Bound In outline_node outline_case outline_change outline outline_lambda outline_last outline_part l

pub node_is : (n : Node) (l : Layer) → n ≡ roll-Node l → (span : Span) → outline_node n span ≡ node_in (with_outlines l) span
unfolding outline outline_node outline_case outline_change outline_lambda outline_last outline_part
node_is n l is span = ap (λ m. outline_node m span) is ∙ ap (λ f. f span) (fold-roll-Node (Span → In) Bound Bound In Bound Bound In node_in case_in change_in expr_in lambda_in last_in part_in l)

-- nodes of one form

pub seq_is : (n : Node) (a b : Expr) (span : Span) → (n ≡ node.Seq a b) ⊎ ((n ≡ node.And a b) ⊎ ((n ≡ node.Or a b) ⊎ ((n ≡ node.Concat a b) ⊎ ((n ≡ node.Append a b) ⊎ ((n ≡ node.Cons a b) ⊎ ((n ≡ node.Add a b) ⊎ ((n ≡ node.Sub a b) ⊎ ((n ≡ node.Mul a b) ⊎ ((n ≡ node.Div a b) ⊎ ((n ≡ node.Mod a b) ⊎ (n ≡ node.Where a b))))))))))) → outline_node n span ≡ plain span unsaid (parts.before (outline a) (outline b))
seq_is n a b span (inl is) = node_is n (Node-F.Seq a b) (is ∙ sym (node.rolls-Seq a b)) span
seq_is n a b span (inr (inl is)) = node_is n (Node-F.And a b) (is ∙ sym (node.rolls-And a b)) span
seq_is n a b span (inr (inr (inl is))) = node_is n (Node-F.Or a b) (is ∙ sym (node.rolls-Or a b)) span
seq_is n a b span (inr (inr (inr (inl is)))) = node_is n (Node-F.Concat a b) (is ∙ sym (node.rolls-Concat a b)) span
seq_is n a b span (inr (inr (inr (inr (inl is))))) = node_is n (Node-F.Append a b) (is ∙ sym (node.rolls-Append a b)) span
seq_is n a b span (inr (inr (inr (inr (inr (inl is)))))) = node_is n (Node-F.Cons a b) (is ∙ sym (node.rolls-Cons a b)) span
seq_is n a b span (inr (inr (inr (inr (inr (inr (inl is))))))) = node_is n (Node-F.Add a b) (is ∙ sym (node.rolls-Add a b)) span
seq_is n a b span (inr (inr (inr (inr (inr (inr (inr (inl is)))))))) = node_is n (Node-F.Sub a b) (is ∙ sym (node.rolls-Sub a b)) span
seq_is n a b span (inr (inr (inr (inr (inr (inr (inr (inr (inl is))))))))) = node_is n (Node-F.Mul a b) (is ∙ sym (node.rolls-Mul a b)) span
seq_is n a b span (inr (inr (inr (inr (inr (inr (inr (inr (inr (inl is)))))))))) = node_is n (Node-F.Div a b) (is ∙ sym (node.rolls-Div a b)) span
seq_is n a b span (inr (inr (inr (inr (inr (inr (inr (inr (inr (inr (inl is))))))))))) = node_is n (Node-F.Mod a b) (is ∙ sym (node.rolls-Mod a b)) span
seq_is n a b span (inr (inr (inr (inr (inr (inr (inr (inr (inr (inr (inr is))))))))))) = node_is n (Node-F.Where a b) (is ∙ sym (node.rolls-Where a b)) span

pub equality_is : (n : Node) (a b : Expr) (span : Span) → (n ≡ node.Eq a b) ⊎ (n ≡ node.Ne a b) → outline_node n span ≡ (λ c m. plain span (Kind.Equality (1 + m)) (parts.before (outline a) (outline b)) c m)
equality_is n a b span (inl is) = node_is n (Node-F.Eq a b) (is ∙ sym (node.rolls-Eq a b)) span
equality_is n a b span (inr is) = node_is n (Node-F.Ne a b) (is ∙ sym (node.rolls-Ne a b)) span

pub order_is : (n : Node) (a b : Expr) (span : Span) → (n ≡ node.Lt a b) ⊎ ((n ≡ node.Le a b) ⊎ ((n ≡ node.Gt a b) ⊎ (n ≡ node.Ge a b))) → outline_node n span ≡ (λ c m. plain span (Kind.Order (1 + m)) (parts.before (outline a) (outline b)) c m)
order_is n a b span (inl is) = node_is n (Node-F.Lt a b) (is ∙ sym (node.rolls-Lt a b)) span
order_is n a b span (inr (inl is)) = node_is n (Node-F.Le a b) (is ∙ sym (node.rolls-Le a b)) span
order_is n a b span (inr (inr (inl is))) = node_is n (Node-F.Gt a b) (is ∙ sym (node.rolls-Gt a b)) span
order_is n a b span (inr (inr (inr is))) = node_is n (Node-F.Ge a b) (is ∙ sym (node.rolls-Ge a b)) span

pub var_is : (n : Node) (x : Word) (e body : Expr) (span : Span) → (n ≡ node.Var x e body) ⊎ ((n ≡ node.ForList x e body) ⊎ (n ≡ node.ForTable x e body)) → outline_node n span ≡ numbered span (binding x (outline e) (outline body))
var_is n x e body span (inl is) = node_is n (Node-F.Var x e body) (is ∙ sym (node.rolls-Var x e body)) span
var_is n x e body span (inr (inl is)) = node_is n (Node-F.ForList x e body) (is ∙ sym (node.rolls-ForList x e body)) span
var_is n x e body span (inr (inr is)) = node_is n (Node-F.ForTable x e body) (is ∙ sym (node.rolls-ForTable x e body)) span

pub leaf_is : (n : Node) (span : Span) → ((x : ℤ) × (n ≡ node.Int x)) ⊎ (((x : Text) × (n ≡ node.Text x)) ⊎ (((x : Bool) × (n ≡ node.Bool x)) ⊎ ((x : Word) × (n ≡ node.Table x)))) → outline_node n span ≡ plain span unsaid nothing
leaf_is n span (inl (x, is)) = node_is n (Node-F.Int x) (is ∙ sym (node.rolls-Int x)) span
leaf_is n span (inr (inl (x, is))) = node_is n (Node-F.Text x) (is ∙ sym (node.rolls-Text x)) span
leaf_is n span (inr (inr (inl (x, is)))) = node_is n (Node-F.Bool x) (is ∙ sym (node.rolls-Bool x)) span
leaf_is n span (inr (inr (inr (x, is)))) = node_is n (Node-F.Table x) (is ∙ sym (node.rolls-Table x)) span

pub switch_is : (n : Node) (e : Expr) (cases : List Case) (last : Option LastCase) (span : Span) → n ≡ node.Switch e cases last
    → outline_node n span ≡ (λ c m. plain span unsaid (parts.before (outline e) (parts.before (all_bound (map outline_case cases) (1 + m)) (some_bound (option_map outline_last last) (1 + m)))) c m)
switch_is n e cases None span is = node_is n (Node-F.Switch e cases None) (is ∙ sym (node.rolls-Switch e cases None)) span
switch_is n e cases (Some last) span is = node_is n (Node-F.Switch e cases (Some last)) (is ∙ sym (node.rolls-Switch e cases (Some last))) span

pub part_level : (p : PartExpr) → outline_part p ≡ outline p.expr
unfolding outline outline_part
part_level p = fold_out-PartExpr (Span → In) Bound Bound In Bound Bound In node_in case_in change_in expr_in lambda_in last_in part_in p

pub lambda_level : (l : LambdaExpr) → outline_lambda l ≡ (λ number. in_lambda (with_names l.params (1 + number)) number (outline l.body))
unfolding outline outline_lambda
lambda_level l = fold_out-LambdaExpr (Span → In) Bound Bound In Bound Bound In node_in case_in change_in expr_in lambda_in last_in part_in l

pub case_put : (one : Case) (binder : ℕ) (round : Round) (scope : Named ℕ) (found : List Site) → put (outline_case one binder) (seen round scope) found ≡ put (outline one.body) (seen round (with_some one.name binder scope)) found
unfolding outline outline_case put
case_put one binder round scope found = ap (λ f. put (f binder) (seen round scope) found) (fold_out-Case (Span → In) Bound Bound In Bound Bound In node_in case_in change_in expr_in lambda_in last_in part_in one)

pub last_put : (one : LastCase) (binder : ℕ) (round : Round) (scope : Named ℕ) (found : List Site) → put (outline_last one binder) (seen round scope) found ≡ put (outline one.body) (seen round ((one.name.text, binder) ∷ scope)) found
unfolding outline outline_last put
last_put one binder round scope found = ap (λ f. put (f binder) (seen round scope) found) (fold_out-LastCase (Span → In) Bound Bound In Bound Bound In node_in case_in change_in expr_in lambda_in last_in part_in one)

pub change_put : (rows : ChangeExpr) (binder : ℕ) (round : Round) (scope : Named ℕ) (found : List Site)
    → put (outline_change rows binder) (seen round scope) found
    ≡ put_all (map outline_part (out-ChangeExpr rows).sets) (seen round (((out-ChangeExpr rows).name.text, binder) ∷ scope)) (put (outline (out-ChangeExpr rows).cond) (seen round (((out-ChangeExpr rows).name.text, binder) ∷ scope)) found)
unfolding outline outline_change outline_part put
change_put rows binder round scope found =
    let c : Context = seen round (((out-ChangeExpr rows).name.text, binder) ∷ scope) in
    ap (λ f. put (f binder) (seen round scope) found) (fold_out-ChangeExpr (Span → In) Bound Bound In Bound Bound In node_in case_in change_in expr_in lambda_in last_in part_in rows)
    ∙ sym (put_before (outline (out-ChangeExpr rows).cond) (all (map outline_part (out-ChangeExpr rows).sets)) c found)
    ∙ sym (put_all_is (map outline_part (out-ChangeExpr rows).sets) c (put (outline (out-ChangeExpr rows).cond) c found))

-- a statement, and then what follows
pub statement_put : (s : Statement) (next : Expr) (round : Round) (scope : Named ℕ) (found : List Site)
    → put (outline (before s next)) (seen round scope) found ≡ put (outline next) (seen round (with_some s.name (1 + length found) scope)) (put (outline s.expr) (seen round scope) (noted s.span unsaid round found))
statement_put s next round scope found = ap (λ part. put part (seen round scope) found) (expr_level (before s next)) ∙ by_name s.name s.expr
  where
    by_name : (name : Option Word) (e : Expr) → put (outline_node (statement_node name e next) s.span) (seen round scope) found ≡ put (outline next) (seen round (with_some name (1 + length found) scope)) (put (outline e) (seen round scope) (noted s.span unsaid round found))
    by_name None e = ap (λ part. put part (seen round scope) found) (seq_level e next s.span)
        ∙ sym (put_before (outline e) (outline next) (seen round scope) (noted s.span unsaid round found) ∙ noted_part s.span unsaid round scope (parts.before (outline e) (outline next)) found)
    by_name (Some x) e = ap (λ part. put part (seen round scope) found) (var_level x e next s.span) ∙ sym (binding_put s.span x (outline e) (outline next) round scope found)

pub statement_step : (s : Statement) (e next : Expr) (round : Round) (scope walked entered : Named ℕ) (binder : ℕ) (found f1 f2 : List Site)
    → e ≡ before s next → f1 ≡ noted s.span unsaid round found → binder ≡ length f1 → f2 ≡ put (outline s.expr) (seen round scope) f1 → walked ≡ scope → entered ≡ with_some s.name binder walked
    → put (outline next) (seen round entered) f2 ≡ put (outline e) (seen round scope) found
statement_step s e next round scope walked entered binder found f1 f2 is first count second same enters =
    let at : binder ≡ 1 + length found = count ∙ ap length first ∙ noted_length s.span unsaid round found in
    ap₂ (λ n f. put (outline next) (seen round n) f) (enters ∙ ap₂ (with_some s.name) at same) (second ∙ ap (put (outline s.expr) (seen round scope)) first)
    ∙ sym (statement_put s next round scope found)
    ∙ ap (λ e. put (outline e) (seen round scope) found) (sym is)

pub lambda_put : (span : Span) (l : LambdaExpr) (round inner : Round) (scope entered : Named ℕ) (params : List Word) (number binder : ℕ) (found f1 f2 : List Site)
    → number ≡ length found → f1 ≡ noted span unsaid round found → binder ≡ length f1 → inner ≡ record { around = around.Lambda number; inside = round.inside } → params ≡ l.params → entered ≡ with_names params binder scope
    → f2 ≡ put (outline l.body) (seen inner entered) f1
    → f2 ≡ put (numbered span (outline_lambda l)) (seen round scope) found
unfolding put
lambda_put span l round inner scope entered params number binder found f1 f2 at first count round_is params_are enters second =
    let begins : binder ≡ 1 + length found = count ∙ ap length first ∙ noted_length span unsaid round found in
    second
    ∙ ap₂ (λ r s. put (outline l.body) (seen r s) f1) (round_is ∙ ap (λ n. record { around = around.Lambda n; inside = round.inside }) at) (enters ∙ ap₂ (λ ps b. with_names ps b scope) params_are begins)
    ∙ ap (put (outline l.body) (seen (record { around = around.Lambda (length found); inside = round.inside }) (with_names l.params (1 + length found) scope))) first
    ∙ noted_part span unsaid round scope (in_lambda (with_names l.params (1 + length found)) (length found) (outline l.body)) found
    ∙ ap (λ f. put (plain span unsaid (f (length found))) (seen round scope) found) (sym (lambda_level l))
