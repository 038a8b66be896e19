-- What is found in a part of the text whose names are resolved, by what is found in its parts.
use Rattle.std.proofs.Common.{◌≡◌, List, [], ◌∷◌, ◌++◌, map, refl, sym, ap, ◌∙◌, append_assoc}
use Rattle.std.proofs.lemmas.List.{append-nil}
use Rattle.lk_ast.specs.Layers.{Layer}
use Rattle.lk_ast.specs.declared.expression.Case.{Case, fold_out-Case}
use Rattle.lk_ast.specs.declared.expression.ChangeExpr.{ChangeExpr, roll-ChangeExpr, out-roll-ChangeExpr, fold-roll-ChangeExpr}
use Rattle.lk_ast.specs.declared.expression.Expr.{Expr, fold_out-Expr}
use Rattle.lk_ast.specs.declared.expression.LambdaExpr.{LambdaExpr, fold_out-LambdaExpr}
use Rattle.lk_ast.specs.declared.expression.LastCase.{LastCase, fold_out-LastCase}
use Rattle.lk_ast.specs.declared.expression.Node.{Node, roll-Node}
use Rattle.lk_ast.specs.declared.expression.Node.TheFolds.{fold-roll-Node, map-Node}
use Rattle.lk_ast.specs.declared.expression.Node.TheOpen.{Node-F}
use Rattle.lk_ast.specs.declared.expression.PartExpr.{PartExpr, fold_out-PartExpr}
use Rattle.lk_ast.specs.declared.place.Span.{Span}
use Rattle.lk_ast.specs.declared.place.Word.{Word}
use Rattle.lk_index.specs.Places.{Lambdas}
use Rattle.lk_scope.specs.Names.{Names, bind, bind_all, bind_some}
use Rattle.lk_scope.specs.Scoped.{In, all_in, node_in, case_in, change_in, expr_in, lambda_in, last_in, part_in, scoped, scoped_node, scoped_case, scoped_change, scoped_lambda, scoped_last, scoped_part}
use Rattle.lk_places.proofs.Walks.{Walk, Same, both, walk_all, same_by, same_then, walk_of, walk_node, walk_part, walk_lambda, walk_case, walk_last, walk_change, expr_walk, part_walk, lambda_walk, case_walk, last_walk, change_walk}

abbrev pub of_node : Span → Node → Expr
of_node span n = record { span = span; node = n }

-- what is found in an expression whose names are resolved
abbrev pub within : Expr → Names → Walk
within e names = walk_of (scoped e names)

-- a node, each part waiting for the names in scope
abbrev pub parts_scoped : Layer → Node-F (In Node) (In Case) (In ChangeExpr) (In Expr) (In LambdaExpr) (In LastCase) (In PartExpr)
parts_scoped l = map-Node Node Case ChangeExpr Expr LambdaExpr LastCase PartExpr (In Node) (In Case) (In ChangeExpr) (In Expr) (In LambdaExpr) (In LastCase) (In PartExpr) scoped_node scoped_case scoped_change scoped scoped_lambda scoped_last scoped_part l

scoped_at : (span : Span) (l : Layer) (names : Names) → scoped (of_node span (roll-Node l)) names ≡ of_node span (node_in (parts_scoped l) names)
scoped_at span l names =
    ap (λ f. f names) (fold_out-Expr (In Node) (In Case) (In ChangeExpr) (In Expr) (In LambdaExpr) (In LastCase) (In PartExpr) node_in case_in change_in expr_in lambda_in last_in part_in (of_node span (roll-Node l)))
    ∙ ap (λ f. of_node span (f names)) (fold-roll-Node (In Node) (In Case) (In ChangeExpr) (In Expr) (In LambdaExpr) (In LastCase) (In PartExpr) node_in case_in change_in expr_in lambda_in last_in part_in l)

-- an expression that is this node, and what it becomes
pub found_at : (span : Span) (n : Node) (l : Layer) (names : Names) → roll-Node l ≡ n → Same (within (of_node span n) names) (walk_node (node_in (parts_scoped l) names) span.start)
found_at span n l names rolls =
    same_by (ap (λ m. within (of_node span m) names) (sym rolls) ∙ ap walk_of (scoped_at span l names)) (expr_walk (of_node span (node_in (parts_scoped l) names)))

-- ---- the records that stand in expressions

pub found_part : (part : PartExpr) (names : Names) → Same (walk_part (scoped_part part names)) (within part.expr names)
found_part part names =
    same_by (ap (λ f. walk_part (f names)) (fold_out-PartExpr (In Node) (In Case) (In ChangeExpr) (In Expr) (In LambdaExpr) (In LastCase) (In PartExpr) node_in case_in change_in expr_in lambda_in last_in part_in part))
    (part_walk (record { label = part.label; expr = scoped part.expr names }))

pub found_lambda : (lambda : LambdaExpr) (names : Names) → Same (walk_lambda (scoped_lambda lambda names)) (within lambda.body (bind_all lambda.params names))
found_lambda lambda names =
    same_by (ap (λ f. walk_lambda (f names)) (fold_out-LambdaExpr (In Node) (In Case) (In ChangeExpr) (In Expr) (In LambdaExpr) (In LastCase) (In PartExpr) node_in case_in change_in expr_in lambda_in last_in part_in lambda))
    (lambda_walk (record { params = lambda.params; place = lambda.place; body = scoped lambda.body (bind_all lambda.params names) }))

pub found_case : (case : Case) (names : Names) → Same (walk_case (scoped_case case names)) (within case.body (bind_some case.name names))
found_case case names =
    same_by (ap (λ f. walk_case (f names)) (fold_out-Case (In Node) (In Case) (In ChangeExpr) (In Expr) (In LambdaExpr) (In LastCase) (In PartExpr) node_in case_in change_in expr_in lambda_in last_in part_in case))
    (case_walk (record { tag = case.tag; name = case.name; body = scoped case.body (bind_some case.name names) }))

pub found_last : (last : LastCase) (names : Names) → Same (walk_last (scoped_last last names)) (within last.body (bind last.name names))
found_last last names =
    same_by (ap (λ f. walk_last (f names)) (fold_out-LastCase (In Node) (In Case) (In ChangeExpr) (In Expr) (In LambdaExpr) (In LastCase) (In PartExpr) node_in case_in change_in expr_in lambda_in last_in part_in last))
    (last_walk (record { name = last.name; body = scoped last.body (bind last.name names) }))

-- a change with these parts
abbrev pub change_with : Word → Word → Expr → List PartExpr → ChangeExpr
change_with x t cond sets = roll-ChangeExpr (record { name = x; table = t; cond = cond; sets = sets })

walk_change_with : (x t : Word) (cond : Expr) (sets : List PartExpr) → Same (walk_change (change_with x t cond sets)) (both (walk_of cond) (walk_all walk_part sets))
walk_change_with x t cond sets =
    same_then (change_walk (change_with x t cond sets))
    (same_by (ap (λ change. both (walk_of change.cond) (walk_all walk_part change.sets)) (out-roll-ChangeExpr (record { name = x; table = t; cond = cond; sets = sets }))) (record { gathers = λ found. refl; used = refl; listed = refl }))

-- ---- lists

-- what is found in parts that stand one behind the other, each with its names resolved
abbrev pub all_scoped : {X : Type 0} → (X → Walk) → (X → In X) → List X → Names → Walk
all_scoped of resolved xs names = walk_all of (all_in names (map resolved xs))

pub found_change : (x t : Word) (cond : Expr) (sets : List PartExpr) (names : Names)
    → Same (walk_change (scoped_change (change_with x t cond sets) names)) (both (within cond (bind x names)) (all_scoped walk_part scoped_part sets (bind x names)))
found_change x t cond sets names =
    same_by (ap (λ f. walk_change (f names)) (fold-roll-ChangeExpr (In Node) (In Case) (In ChangeExpr) (In Expr) (In LambdaExpr) (In LastCase) (In PartExpr) node_in case_in change_in expr_in lambda_in last_in part_in (record { name = x; table = t; cond = cond; sets = sets })))
    (walk_change_with x t (scoped cond (bind x names)) (all_in (bind x names) (map scoped_part sets)))

-- one more part behind them
all_gathered : {X : Type 0} (of : X → Walk) (resolved : X → In X) (xs : List X) (x : X) (names : Names) (found : Lambdas)
    → (all_scoped of resolved (xs ++ x ∷ []) names).lambdas found ≡ (of (resolved x names)).lambdas ((all_scoped of resolved xs names).lambdas found)
all_gathered of resolved [] x names found = refl
all_gathered of resolved (y ∷ xs) x names found = all_gathered of resolved xs x names ((of (resolved y names)).lambdas found)

all_used : {X : Type 0} (of : X → Walk) (resolved : X → In X) (xs : List X) (x : X) (names : Names)
    → (all_scoped of resolved (xs ++ x ∷ []) names).uses ≡ (all_scoped of resolved xs names).uses ++ (of (resolved x names)).uses
all_used of resolved [] x names = append-nil (of (resolved x names)).uses
all_used of resolved (y ∷ xs) x names = ap (λ us. (of (resolved y names)).uses ++ us) (all_used of resolved xs x names) ∙ sym (append_assoc (of (resolved y names)).uses (all_scoped of resolved xs names).uses (of (resolved x names)).uses)

all_listed : {X : Type 0} (of : X → Walk) (resolved : X → In X) (xs : List X) (x : X) (names : Names)
    → (all_scoped of resolved (xs ++ x ∷ []) names).blocks ≡ (all_scoped of resolved xs names).blocks ++ (of (resolved x names)).blocks
all_listed of resolved [] x names = append-nil (of (resolved x names)).blocks
all_listed of resolved (y ∷ xs) x names = ap (λ bs. (of (resolved y names)).blocks ++ bs) (all_listed of resolved xs x names) ∙ sym (append_assoc (of (resolved y names)).blocks (all_scoped of resolved xs names).blocks (of (resolved x names)).blocks)

pub all_more : {X : Type 0} (of : X → Walk) (resolved : X → In X) (xs : List X) (x : X) (names : Names)
    → Same (all_scoped of resolved (xs ++ x ∷ []) names) (both (all_scoped of resolved xs names) (of (resolved x names)))
all_more of resolved xs x names = record { gathers = all_gathered of resolved xs x names; used = all_used of resolved xs x names; listed = all_listed of resolved xs x names }
