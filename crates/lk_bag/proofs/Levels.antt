-- What acts on tables in an expression: the expression itself, where it does, and then what does so in the expressions right
-- inside it.
use Rattle.std.proofs.Common.{◌≡◌, arith, refl, sym, ap, ap₂, ◌∙◌, Bool, true, false, List, [], ◌∷◌, ◌++◌, map, flat_map, append-nil, append_assoc, Option, Some, None}
use Rattle.std.proofs.lemmas.List.Folds.{flat_map-map}
use Rattle.std.proofs.lemmas.Grind.{flat_map-append}
use Rattle.lk_ast.specs.Children.{children, exprs_of}
use Rattle.lk_ast.specs.Layers.{Layer, layer}
use Rattle.lk_ast.specs.declared.expression.Case.{Case, para-Case, para-roll-Case}
use Rattle.lk_ast.specs.declared.expression.ChangeExpr.{ChangeExpr, out-ChangeExpr, roll-out-ChangeExpr, para-ChangeExpr, para-roll-ChangeExpr}
use Rattle.lk_ast.specs.declared.expression.Expr.{Expr, Expr-F, para-roll-Expr}
use Rattle.lk_ast.specs.declared.expression.LambdaExpr.{LambdaExpr, para-LambdaExpr, para-roll-LambdaExpr}
use Rattle.lk_ast.specs.declared.expression.LastCase.{LastCase, para-LastCase, para-roll-LastCase}
use Rattle.lk_ast.specs.declared.expression.Node.{Node, out-Node, roll-out-Node, para-Node, para-roll-Node}
use Rattle.lk_ast.specs.declared.expression.Node.TheFolds.{map-Node}
use Rattle.lk_ast.specs.declared.expression.Node.TheOpen.{Node-F, Case-F, ChangeExpr-F, LambdaExpr-F, LastCase-F, PartExpr-F}
use Rattle.lk_ast.specs.declared.expression.PartExpr.{PartExpr, para-PartExpr, para-roll-PartExpr}
use Rattle.lk_bag.specs.Blocks.{acts_on_tables, blocks_in}

-- ---- the expressions right inside an expression

abbrev bodies_of : List Case → List Expr
bodies_of cases = map (λ (case : Case). case.body) cases

abbrev last_body : Option LastCase → List Expr
last_body None = []
last_body (Some last) = last.body ∷ []

-- the condition and what is set
abbrev pub inside_change : ChangeExpr → List Expr
inside_change change = (out-ChangeExpr change).cond ∷ exprs_of (out-ChangeExpr change).sets

-- those of a node, in text order
abbrev pub inside : Layer → List Expr
inside (Node-F.Lambda lambda) = lambda.body ∷ []
inside (Node-F.Call g args) = args
inside (Node-F.Apply f args) = f ∷ args
inside (Node-F.If c d e) = c ∷ d ∷ e ∷ []
inside (Node-F.Record parts) = exprs_of parts
inside (Node-F.Extend parts e) = exprs_of parts ++ e ∷ []
inside (Node-F.List items) = items
inside (Node-F.Switch e cases last) = e ∷ (bodies_of cases ++ last_body last)
inside (Node-F.Update change) = inside_change change
inside (Node-F.Delete change) = inside_change change
inside other = children (λ e. e ∷ []) (λ case. []) (λ change. []) (λ lambda. []) (λ last. []) (λ part. []) other

-- ---- one level, each part with what acts on tables in it, as the definition has it

abbrev Found : Type 0
Found = List Expr

abbrev found_in : {X : Type 0} → X × Found → Found
found_in part = part.1

abbrev node_found : Node-F (Node × Found) (Case × Found) (ChangeExpr × Found) (Expr × Found) (LambdaExpr × Found) (LastCase × Found) (PartExpr × Found) → Found
node_found node = children found_in found_in found_in found_in found_in found_in node

abbrev case_found : Case-F (Node × Found) (Case × Found) (ChangeExpr × Found) (Expr × Found) (LambdaExpr × Found) (LastCase × Found) (PartExpr × Found) → Found
case_found case = case.body.1

abbrev change_found : ChangeExpr-F (Node × Found) (Case × Found) (ChangeExpr × Found) (Expr × Found) (LambdaExpr × Found) (LastCase × Found) (PartExpr × Found) → Found
change_found change = change.cond.1 ++ flat_map found_in change.sets

abbrev lambda_found : LambdaExpr-F (Node × Found) (Case × Found) (ChangeExpr × Found) (Expr × Found) (LambdaExpr × Found) (LastCase × Found) (PartExpr × Found) → Found
lambda_found lambda = lambda.body.1

abbrev last_found : LastCase-F (Node × Found) (Case × Found) (ChangeExpr × Found) (Expr × Found) (LambdaExpr × Found) (LastCase × Found) (PartExpr × Found) → Found
last_found last = last.body.1

abbrev part_found : PartExpr-F (Node × Found) (Case × Found) (ChangeExpr × Found) (Expr × Found) (LambdaExpr × Found) (LastCase × Found) (PartExpr × Found) → Found
part_found part = part.expr.1

abbrev before : Expr → Bool → Found → Found
before e true found = e ∷ found
before e false found = found

abbrev expr_found : Expr-F (Node × Found) (Case × Found) (ChangeExpr × Found) (Expr × Found) (LambdaExpr × Found) (LastCase × Found) (PartExpr × Found) → Found
expr_found e = before (record { span = e.span; node = e.node.0 }) (acts_on_tables (out-Node e.node.0)) e.node.1

abbrev in_node : Node → Found
in_node = para-Node Found Found Found Found Found Found Found node_found case_found change_found expr_found lambda_found last_found part_found

abbrev in_case : Case → Found
in_case = para-Case Found Found Found Found Found Found Found node_found case_found change_found expr_found lambda_found last_found part_found

abbrev in_change : ChangeExpr → Found
in_change = para-ChangeExpr Found Found Found Found Found Found Found node_found case_found change_found expr_found lambda_found last_found part_found

abbrev in_lambda : LambdaExpr → Found
in_lambda = para-LambdaExpr Found Found Found Found Found Found Found node_found case_found change_found expr_found lambda_found last_found part_found

abbrev in_last : LastCase → Found
in_last = para-LastCase Found Found Found Found Found Found Found node_found case_found change_found expr_found lambda_found last_found part_found

abbrev in_part : PartExpr → Found
in_part = para-PartExpr Found Found Found Found Found Found Found node_found case_found change_found expr_found lambda_found last_found part_found

-- a node with what acts on tables in each of its parts
abbrev with_found : Layer → Node-F (Node × Found) (Case × Found) (ChangeExpr × Found) (Expr × Found) (LambdaExpr × Found) (LastCase × Found) (PartExpr × Found)
with_found l = map-Node _ _ _ _ _ _ _ _ _ _ _ _ _ _ (λ n. (n, in_node n)) (λ n. (n, in_case n)) (λ n. (n, in_change n)) (λ n. (n, blocks_in n)) (λ n. (n, in_lambda n)) (λ n. (n, in_last n)) (λ n. (n, in_part n)) l

expr_level : (e : Expr) → blocks_in e ≡ before e (acts_on_tables (layer e)) (in_node e.node)
unfolding blocks_in
expr_level e = para-roll-Expr Found Found Found Found Found Found Found node_found case_found change_found expr_found lambda_found last_found part_found (record { span = e.span; node = e.node })

node_level : (n : Node) → in_node n ≡ node_found (with_found (out-Node n))
unfolding blocks_in
node_level n = ap in_node (sym (roll-out-Node n)) ∙ para-roll-Node Found Found Found Found Found Found Found node_found case_found change_found expr_found lambda_found last_found part_found (out-Node n)

part_level : (part : PartExpr) → in_part part ≡ blocks_in part.expr
unfolding blocks_in
part_level part = para-roll-PartExpr Found Found Found Found Found Found Found node_found case_found change_found expr_found lambda_found last_found part_found (record { label = part.label; expr = part.expr })

lambda_level : (lambda : LambdaExpr) → in_lambda lambda ≡ blocks_in lambda.body
unfolding blocks_in
lambda_level lambda = para-roll-LambdaExpr Found Found Found Found Found Found Found node_found case_found change_found expr_found lambda_found last_found part_found (record { params = lambda.params; place = lambda.place; body = lambda.body })

case_level : (case : Case) → in_case case ≡ blocks_in case.body
unfolding blocks_in
case_level case = para-roll-Case Found Found Found Found Found Found Found node_found case_found change_found expr_found lambda_found last_found part_found (record { tag = case.tag; name = case.name; body = case.body })

last_level : (last : LastCase) → in_last last ≡ blocks_in last.body
unfolding blocks_in
last_level last = para-roll-LastCase Found Found Found Found Found Found Found node_found case_found change_found expr_found lambda_found last_found part_found (record { name = last.name; body = last.body })

parts_level : (parts : List PartExpr) → flat_map found_in (map (λ n. (n, in_part n)) parts) ≡ flat_map blocks_in (exprs_of parts)
parts_level [] = refl
parts_level (part ∷ parts) = ap₂ (λ a b. a ++ b) (part_level part) (parts_level parts)

change_level : (change : ChangeExpr) → in_change change ≡ flat_map blocks_in (inside_change change)
unfolding blocks_in
change_level change =
    ap in_change (sym (roll-out-ChangeExpr change))
    ∙ para-roll-ChangeExpr Found Found Found Found Found Found Found node_found case_found change_found expr_found lambda_found last_found part_found (out-ChangeExpr change)
    ∙ ap (λ r. blocks_in (out-ChangeExpr change).cond ++ r) (parts_level (out-ChangeExpr change).sets)

cases_level : (cases : List Case) → flat_map found_in (map (λ n. (n, in_case n)) cases) ≡ flat_map blocks_in (bodies_of cases)
cases_level [] = refl
cases_level (case ∷ cases) = ap₂ (λ a b. a ++ b) (case_level case) (cases_level cases)

exprs_level : (es : List Expr) → flat_map found_in (map (λ n. (n, blocks_in n)) es) ≡ flat_map blocks_in es
exprs_level es = flat_map-map found_in (λ n. (n, blocks_in n)) es

-- ---- what stands in a node

in_extended : (parts : List PartExpr) (e : Expr) → flat_map found_in (map (λ n. (n, in_part n)) parts) ++ blocks_in e ≡ flat_map blocks_in (exprs_of parts ++ e ∷ [])
in_extended parts e = ap₂ (λ a b. a ++ b) (parts_level parts) (sym (append-nil (blocks_in e))) ∙ sym (flat_map-append blocks_in (exprs_of parts) (e ∷ []))

in_switch : (found : Found) (cases : List Case) (last : List Expr) (final : Found) → final ≡ flat_map blocks_in last
    → (found ++ flat_map found_in (map (λ n. (n, in_case n)) cases)) ++ final ≡ found ++ flat_map blocks_in (bodies_of cases ++ last)
in_switch found cases last final is =
    append_assoc found _ final ∙ ap (λ r. found ++ r) (ap₂ (λ a b. a ++ b) (cases_level cases) is ∙ sym (flat_map-append blocks_in (bodies_of cases) last))

in_three : (a b c : Found) → (a ++ b) ++ c ≡ a ++ (b ++ (c ++ []))
in_three a b c = append_assoc a b c ∙ ap (λ r. a ++ (b ++ r)) (sym (append-nil c))

inside_level : (l : Layer) → node_found (with_found l) ≡ flat_map blocks_in (inside l)
inside_level (Node-F.Lambda lambda) = lambda_level lambda ∙ sym (append-nil (blocks_in lambda.body))
inside_level (Node-F.Call g args) = exprs_level args
inside_level (Node-F.Apply f args) = ap (λ r. blocks_in f ++ r) (exprs_level args)
inside_level (Node-F.If c d e) = in_three (blocks_in c) (blocks_in d) (blocks_in e)
inside_level (Node-F.Record parts) = parts_level parts
inside_level (Node-F.Extend parts e) = in_extended parts e
inside_level (Node-F.List items) = exprs_level items
inside_level (Node-F.Switch e cases None) = in_switch (blocks_in e) cases [] [] refl
inside_level (Node-F.Switch e cases (Some last)) = in_switch (blocks_in e) cases (last.body ∷ []) (in_last last) (last_level last ∙ sym (append-nil (blocks_in last.body)))
inside_level (Node-F.Update change) = change_level change
inside_level (Node-F.Delete change) = change_level change
inside_level other = grind (arith, append-nil)

-- ---- an expression

-- the expression, where it acts on tables itself
abbrev pub itself : Bool → Expr → List Expr
itself true e = e ∷ []
itself false e = []

itself_before : (truth : Bool) (e : Expr) (found : Found) → before e truth found ≡ itself truth e ++ found
itself_before true e found = refl
itself_before false e found = refl

pub blocks_level : (e : Expr) → blocks_in e ≡ itself (acts_on_tables (layer e)) e ++ flat_map blocks_in (inside (layer e))
blocks_level e =
    expr_level e ∙ itself_before (acts_on_tables (layer e)) e (in_node e.node) ∙ ap (λ r. itself (acts_on_tables (layer e)) e ++ r) (node_level e.node ∙ inside_level (layer e))
