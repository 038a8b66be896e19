-- What an expression is scoped, bare and printed, level by level.
use Rattle.std.proofs.Common.{◌≡◌, List, [], ◌∷◌, ◌++◌, map, sym, ap, ◌∙◌}
use Rattle.std.specs.Option.{option_map}
use Rattle.std.specs.Prelude.{codes}
use Rattle.lk_ast.specs.Layers.{Layer}
use Rattle.lk_ast.specs.declared.expression.Case.{Case, fold-Case, fold_out-Case}
use Rattle.lk_ast.specs.declared.expression.ChangeExpr.{ChangeExpr, roll-ChangeExpr, fold-ChangeExpr, fold-roll-ChangeExpr}
use Rattle.lk_ast.specs.declared.expression.Expr.{Expr, fold_out-Expr}
use Rattle.lk_ast.specs.declared.expression.LambdaExpr.{LambdaExpr, fold-LambdaExpr, fold_out-LambdaExpr}
use Rattle.lk_ast.specs.declared.expression.LastCase.{LastCase, fold-LastCase, fold_out-LastCase}
use Rattle.lk_ast.specs.declared.expression.Node.{Node, roll-Node, fold-Node}
use Rattle.lk_ast.specs.declared.expression.Node.TheFolds.{fold-roll-Node, map-Node}
use Rattle.lk_ast.specs.declared.expression.Node.TheOpen.{Node-F}
use Rattle.lk_ast.specs.declared.expression.PartExpr.{PartExpr, fold-PartExpr, fold_out-PartExpr}
use Rattle.lk_ast.specs.declared.place.Span.{Span}
use Rattle.lk_ast.specs.declared.place.Word.{Word as Named}
use Rattle.lk_ast.specs.declared.token.TokenKind.TheVariants.{Word, Tag, Sign}
use Rattle.lk_print.specs.Bare.{nowhere, bare, bare_word, bare_layer, bare_node_of, bare_case_of, bare_change_of, bare_expr_of, bare_lambda_of, bare_last_of, bare_part_of}
use Rattle.lk_print.specs.Printed.{Kinds, Form, ChangeForm, form_of, separated, in_round, in_braces, name_kind, names as names_kinds, place, case_name, node_form, case_form, change_form, expr_form, lambda_form, last_form, part_form, print_node, print_case, print_change, print_lambda, print_last, print_part}
use Rattle.lk_scope.specs.Names.{Names, bind, bind_all, bind_some}
use Rattle.lk_scope.specs.Scoped.{In, all_in, node_in, case_in, change_in, expr_in, lambda_in, last_in, part_in, scoped, scoped_node, scoped_case, scoped_change, scoped_lambda, scoped_last, scoped_part}

-- an expression of this level
abbrev pub at_level : Span → Layer → Expr
at_level span l = record { span = span; node = roll-Node l }

abbrev pub of_node : Span → Node → Expr
of_node span n = record { span = span; node = n }

-- ---- scoped

abbrev pub parts_scoped : Layer → Node-F (In Node) (In Case) (In ChangeExpr) (In Expr) (In LambdaExpr) (In LastCase) (In PartExpr)
parts_scoped l = map-Node Node Case ChangeExpr Expr LambdaExpr LastCase PartExpr (In Node) (In Case) (In ChangeExpr) (In Expr) (In LambdaExpr) (In LastCase) (In PartExpr) scoped_node scoped_case scoped_change scoped scoped_lambda scoped_last scoped_part l

pub scoped_at : (span : Span) (l : Layer) (names : Names) → scoped (at_level span l) names ≡ of_node span (node_in (parts_scoped l) names)
scoped_at span l names =
    ap (λ f. f names) (fold_out-Expr (In Node) (In Case) (In ChangeExpr) (In Expr) (In LambdaExpr) (In LastCase) (In PartExpr) node_in case_in change_in expr_in lambda_in last_in part_in (at_level span l))
    ∙ ap (λ f. of_node span (f names)) (fold-roll-Node (In Node) (In Case) (In ChangeExpr) (In Expr) (In LambdaExpr) (In LastCase) (In PartExpr) node_in case_in change_in expr_in lambda_in last_in part_in l)

-- ---- bare

abbrev pub bare_node : Node → Node
bare_node = fold-Node Node Case ChangeExpr Expr LambdaExpr LastCase PartExpr bare_node_of bare_case_of bare_change_of bare_expr_of bare_lambda_of bare_last_of bare_part_of

abbrev pub bare_case : Case → Case
bare_case = fold-Case Node Case ChangeExpr Expr LambdaExpr LastCase PartExpr bare_node_of bare_case_of bare_change_of bare_expr_of bare_lambda_of bare_last_of bare_part_of

abbrev pub bare_change : ChangeExpr → ChangeExpr
bare_change = fold-ChangeExpr Node Case ChangeExpr Expr LambdaExpr LastCase PartExpr bare_node_of bare_case_of bare_change_of bare_expr_of bare_lambda_of bare_last_of bare_part_of

abbrev pub bare_lambda : LambdaExpr → LambdaExpr
bare_lambda = fold-LambdaExpr Node Case ChangeExpr Expr LambdaExpr LastCase PartExpr bare_node_of bare_case_of bare_change_of bare_expr_of bare_lambda_of bare_last_of bare_part_of

abbrev pub bare_last : LastCase → LastCase
bare_last = fold-LastCase Node Case ChangeExpr Expr LambdaExpr LastCase PartExpr bare_node_of bare_case_of bare_change_of bare_expr_of bare_lambda_of bare_last_of bare_part_of

abbrev pub bare_part : PartExpr → PartExpr
bare_part = fold-PartExpr Node Case ChangeExpr Expr LambdaExpr LastCase PartExpr bare_node_of bare_case_of bare_change_of bare_expr_of bare_lambda_of bare_last_of bare_part_of

abbrev pub parts_bare : Layer → Layer
parts_bare l = map-Node Node Case ChangeExpr Expr LambdaExpr LastCase PartExpr Node Case ChangeExpr Expr LambdaExpr LastCase PartExpr bare_node bare_case bare_change bare bare_lambda bare_last bare_part l

pub bare_at : (span : Span) (l : Layer) → bare (at_level span l) ≡ at_level nowhere (bare_layer (parts_bare l))
bare_at span l =
    fold_out-Expr Node Case ChangeExpr Expr LambdaExpr LastCase PartExpr bare_node_of bare_case_of bare_change_of bare_expr_of bare_lambda_of bare_last_of bare_part_of (at_level span l)
    ∙ ap (of_node nowhere) (fold-roll-Node Node Case ChangeExpr Expr LambdaExpr LastCase PartExpr bare_node_of bare_case_of bare_change_of bare_expr_of bare_lambda_of bare_last_of bare_part_of l)

-- a node is the same at every place
pub elsewhere : (s t : Span) (n : Node) → bare (of_node s n) ≡ bare (of_node t n)
elsewhere s t n =
    fold_out-Expr Node Case ChangeExpr Expr LambdaExpr LastCase PartExpr bare_node_of bare_case_of bare_change_of bare_expr_of bare_lambda_of bare_last_of bare_part_of (of_node s n)
    ∙ sym (fold_out-Expr Node Case ChangeExpr Expr LambdaExpr LastCase PartExpr bare_node_of bare_case_of bare_change_of bare_expr_of bare_lambda_of bare_last_of bare_part_of (of_node t n))

-- levels whose parts are the same but for their places
pub same_level : (s t : Span) (k l : Layer) → bare_layer (parts_bare k) ≡ bare_layer (parts_bare l) → bare (at_level s k) ≡ bare (at_level t l)
same_level s t k l same = bare_at s k ∙ ap (at_level nowhere) same ∙ sym (bare_at t l)

-- ---- printed

abbrev pub parts_printed : Layer → Node-F Form Kinds ChangeForm Form Kinds Kinds Kinds
parts_printed l = map-Node Node Case ChangeExpr Expr LambdaExpr LastCase PartExpr Form Kinds ChangeForm Form Kinds Kinds Kinds print_node print_case print_change form_of print_lambda print_last print_part l

pub form_at : (span : Span) (l : Layer) → form_of (at_level span l) ≡ node_form (parts_printed l)
form_at span l =
    fold_out-Expr Form Kinds ChangeForm Form Kinds Kinds Kinds node_form case_form change_form expr_form lambda_form last_form part_form (at_level span l)
    ∙ fold-roll-Node Form Kinds ChangeForm Form Kinds Kinds Kinds node_form case_form change_form expr_form lambda_form last_form part_form l

-- ---- the records that stand in expressions

pub scoped_part_is : (part : PartExpr) (names : Names) → scoped_part part names ≡ record { label = part.label; expr = scoped part.expr names }
scoped_part_is part names = ap (λ f. f names) (fold_out-PartExpr (In Node) (In Case) (In ChangeExpr) (In Expr) (In LambdaExpr) (In LastCase) (In PartExpr) node_in case_in change_in expr_in lambda_in last_in part_in part)

pub bare_part_is : (part : PartExpr) → bare_part part ≡ record { label = bare_word part.label; expr = bare part.expr }
bare_part_is part = fold_out-PartExpr Node Case ChangeExpr Expr LambdaExpr LastCase PartExpr bare_node_of bare_case_of bare_change_of bare_expr_of bare_lambda_of bare_last_of bare_part_of part

pub print_part_is : (part : PartExpr) → print_part part ≡ name_kind part.label ∷ Sign (codes "=") ∷ (form_of part.expr).alone
print_part_is part = fold_out-PartExpr Form Kinds ChangeForm Form Kinds Kinds Kinds node_form case_form change_form expr_form lambda_form last_form part_form part

pub scoped_lambda_is : (lambda : LambdaExpr) (names : Names) → scoped_lambda lambda names ≡ record { params = lambda.params; place = lambda.place; body = scoped lambda.body (bind_all lambda.params names) }
scoped_lambda_is lambda names = ap (λ f. f names) (fold_out-LambdaExpr (In Node) (In Case) (In ChangeExpr) (In Expr) (In LambdaExpr) (In LastCase) (In PartExpr) node_in case_in change_in expr_in lambda_in last_in part_in lambda)

pub bare_lambda_is : (lambda : LambdaExpr) → bare_lambda lambda ≡ record { params = map bare_word lambda.params; place = lambda.place; body = bare lambda.body }
bare_lambda_is lambda = fold_out-LambdaExpr Node Case ChangeExpr Expr LambdaExpr LastCase PartExpr bare_node_of bare_case_of bare_change_of bare_expr_of bare_lambda_of bare_last_of bare_part_of lambda

pub print_lambda_is : (lambda : LambdaExpr) → print_lambda lambda ≡ in_round (names_kinds lambda.params) ++ (place lambda.place ++ in_braces (form_of lambda.body).inside)
print_lambda_is lambda = fold_out-LambdaExpr Form Kinds ChangeForm Form Kinds Kinds Kinds node_form case_form change_form expr_form lambda_form last_form part_form lambda

pub scoped_case_is : (case : Case) (names : Names) → scoped_case case names ≡ record { tag = case.tag; name = case.name; body = scoped case.body (bind_some case.name names) }
scoped_case_is case names = ap (λ f. f names) (fold_out-Case (In Node) (In Case) (In ChangeExpr) (In Expr) (In LambdaExpr) (In LastCase) (In PartExpr) node_in case_in change_in expr_in lambda_in last_in part_in case)

pub bare_case_is : (case : Case) → bare_case case ≡ record { tag = bare_word case.tag; name = option_map bare_word case.name; body = bare case.body }
bare_case_is case = fold_out-Case Node Case ChangeExpr Expr LambdaExpr LastCase PartExpr bare_node_of bare_case_of bare_change_of bare_expr_of bare_lambda_of bare_last_of bare_part_of case

pub print_case_is : (case : Case) → print_case case ≡ Word (codes "case") ∷ Tag case.tag.text ∷ (case_name case.name ++ Sign (codes "->") ∷ (form_of case.body).alone)
print_case_is case = fold_out-Case Form Kinds ChangeForm Form Kinds Kinds Kinds node_form case_form change_form expr_form lambda_form last_form part_form case

pub scoped_last_is : (last : LastCase) (names : Names) → scoped_last last names ≡ record { name = last.name; body = scoped last.body (bind last.name names) }
scoped_last_is last names = ap (λ f. f names) (fold_out-LastCase (In Node) (In Case) (In ChangeExpr) (In Expr) (In LambdaExpr) (In LastCase) (In PartExpr) node_in case_in change_in expr_in lambda_in last_in part_in last)

pub bare_last_is : (last : LastCase) → bare_last last ≡ record { name = bare_word last.name; body = bare last.body }
bare_last_is last = fold_out-LastCase Node Case ChangeExpr Expr LambdaExpr LastCase PartExpr bare_node_of bare_case_of bare_change_of bare_expr_of bare_lambda_of bare_last_of bare_part_of last

pub print_last_is : (last : LastCase) → print_last last ≡ Word (codes "case") ∷ name_kind last.name ∷ Sign (codes "->") ∷ (form_of last.body).alone
print_last_is last = fold_out-LastCase Form Kinds ChangeForm Form Kinds Kinds Kinds node_form case_form change_form expr_form lambda_form last_form part_form last

-- a change with these parts
abbrev pub change_with : Named → Named → Expr → List PartExpr → ChangeExpr
change_with x t cond sets = roll-ChangeExpr (record { name = x; table = t; cond = cond; sets = sets })

pub scoped_change_is : (x t : Named) (cond : Expr) (sets : List PartExpr) (names : Names) → scoped_change (change_with x t cond sets) names ≡ change_with x t (scoped cond (bind x names)) (all_in (bind x names) (map scoped_part sets))
scoped_change_is x t cond sets names = ap (λ f. f names) (fold-roll-ChangeExpr (In Node) (In Case) (In ChangeExpr) (In Expr) (In LambdaExpr) (In LastCase) (In PartExpr) node_in case_in change_in expr_in lambda_in last_in part_in (record { name = x; table = t; cond = cond; sets = sets }))

pub bare_change_is : (x t : Named) (cond : Expr) (sets : List PartExpr) → bare_change (change_with x t cond sets) ≡ change_with (bare_word x) (bare_word t) (bare cond) (map bare_part sets)
bare_change_is x t cond sets = fold-roll-ChangeExpr Node Case ChangeExpr Expr LambdaExpr LastCase PartExpr bare_node_of bare_case_of bare_change_of bare_expr_of bare_lambda_of bare_last_of bare_part_of (record { name = x; table = t; cond = cond; sets = sets })

pub print_change_is : (x t : Named) (cond : Expr) (sets : List PartExpr) → print_change (change_with x t cond sets) ≡ record { rows = in_round (name_kind x ∷ Sign (codes "<--") ∷ name_kind t ∷ []) ++ Word (codes "where") ∷ in_round (form_of cond).alone; sets = separated (map print_part sets) }
print_change_is x t cond sets = fold-roll-ChangeExpr Form Kinds ChangeForm Form Kinds Kinds Kinds node_form case_form change_form expr_form lambda_form last_form part_form (record { name = x; table = t; cond = cond; sets = sets })

-- ---- nodes

-- of two nodes, the one means the other, but for its places, where their levels do
pub same_of : (names : Names) (s t : Span) (m n : Node) (k scoped_k l : Layer) → roll-Node k ≡ m → node_in (parts_scoped k) names ≡ roll-Node scoped_k → roll-Node l ≡ n
    → bare_layer (parts_bare scoped_k) ≡ bare_layer (parts_bare l) → bare (scoped (of_node s m) names) ≡ bare (of_node t n)
same_of names s t m n k scoped_k l rolls_m resolves rolls_n same =
    ap (λ z. bare (scoped (of_node s z) names)) (sym rolls_m)
    ∙ ap bare (scoped_at s k names ∙ ap (of_node s) resolves)
    ∙ same_level s t scoped_k l same
    ∙ ap (λ z. bare (of_node t z)) rolls_n

pub form_is : (span : Span) (n : Node) (l : Layer) → roll-Node l ≡ n → form_of (of_node span n) ≡ node_form (parts_printed l)
form_is span n l rolls = ap (λ z. form_of (of_node span z)) (sym rolls) ∙ form_at span l

pub scoped_is : (span : Span) (n : Node) (l : Layer) (names : Names) → roll-Node l ≡ n → scoped (of_node span n) names ≡ of_node span (node_in (parts_scoped l) names)
scoped_is span n l names rolls = ap (λ z. scoped (of_node span z) names) (sym rolls) ∙ scoped_at span l names
