-- What begins in an expression, by what begins in the expressions right inside it.
use Rattle.std.proofs.Common.{◌≡◌, refl, sym, ap, ap₂, ◌∙◌, ℕ, List, [], ◌∷◌, ◌++◌, map, flat_map, append-nil, Some, None}
use Rattle.std.proofs.lemmas.List.Folds.{flat_map-map}
use Rattle.lk_ast.specs.Children.{exprs_of}
use Rattle.lk_ast.specs.Layers.{Layer, layer}
use Rattle.lk_ast.specs.declared.expression.Case.{Case, fold-Case, fold_out-Case}
use Rattle.lk_ast.specs.declared.expression.ChangeExpr.{ChangeExpr, out-ChangeExpr, fold-ChangeExpr, fold_out-ChangeExpr}
use Rattle.lk_ast.specs.declared.expression.Expr.{Expr, fold-Expr, fold_out-Expr}
use Rattle.lk_ast.specs.declared.expression.LambdaExpr.{LambdaExpr, fold-LambdaExpr, fold_out-LambdaExpr}
use Rattle.lk_ast.specs.declared.expression.LastCase.{LastCase, fold-LastCase, fold_out-LastCase}
use Rattle.lk_ast.specs.declared.expression.Node.{Node, fold-Node, fold_out-Node}
use Rattle.lk_ast.specs.declared.expression.Node.TheFolds.{map-Node}
use Rattle.lk_ast.specs.declared.expression.Node.TheOpen.{Node-F}
use Rattle.lk_ast.specs.declared.expression.PartExpr.{PartExpr, fold-PartExpr, fold_out-PartExpr}
use Rattle.lk_sound.proofs.Inside.{insides, bodies_of}
use Rattle.lk_ground.specs.Sites.{PlacedUse, all, inner, in_case, in_change, in_expr, in_lambda, in_last, in_part, use_at, outer_node_uses, outer_uses, node_labelled, labelled_in}

-- the expressions right inside it that are evaluated with it: none of a query, an update or a deletion
abbrev pub outer : Layer → List Expr
outer (Node-F.Query keys e) = []
outer (Node-F.Update change) = []
outer (Node-F.Delete change) = []
outer other = insides other

module _ {A : Type 0} (node : Node-F (ℕ → List A) (List A) (List A) (List A) (List A) (List A) (List A) → ℕ → List A) where
  abbrev of : Expr → List A
  of = fold-Expr (ℕ → List A) (List A) (List A) (List A) (List A) (List A) (List A) node in_case in_change in_expr in_lambda in_last in_part

  abbrev of_case : Case → List A
  of_case = fold-Case (ℕ → List A) (List A) (List A) (List A) (List A) (List A) (List A) node in_case in_change in_expr in_lambda in_last in_part

  abbrev of_change : ChangeExpr → List A
  of_change = fold-ChangeExpr (ℕ → List A) (List A) (List A) (List A) (List A) (List A) (List A) node in_case in_change in_expr in_lambda in_last in_part

  abbrev of_lambda : LambdaExpr → List A
  of_lambda = fold-LambdaExpr (ℕ → List A) (List A) (List A) (List A) (List A) (List A) (List A) node in_case in_change in_expr in_lambda in_last in_part

  abbrev of_last : LastCase → List A
  of_last = fold-LastCase (ℕ → List A) (List A) (List A) (List A) (List A) (List A) (List A) node in_case in_change in_expr in_lambda in_last in_part

  abbrev of_part : PartExpr → List A
  of_part = fold-PartExpr (ℕ → List A) (List A) (List A) (List A) (List A) (List A) (List A) node in_case in_change in_expr in_lambda in_last in_part

  abbrev of_node : Node → ℕ → List A
  of_node = fold-Node (ℕ → List A) (List A) (List A) (List A) (List A) (List A) (List A) node in_case in_change in_expr in_lambda in_last in_part

  -- a level with what begins in its parts
  abbrev mapped : Layer → Node-F (ℕ → List A) (List A) (List A) (List A) (List A) (List A) (List A)
  mapped = map-Node Node Case ChangeExpr Expr LambdaExpr LastCase PartExpr (ℕ → List A) (List A) (List A) (List A) (List A) (List A) (List A) of_node of_case of_change of of_lambda of_last of_part

  expr_level : (e : Expr) → of e ≡ node (mapped (layer e)) e.span.start
  expr_level e =
      fold_out-Expr (ℕ → List A) (List A) (List A) (List A) (List A) (List A) (List A) node in_case in_change in_expr in_lambda in_last in_part e
      ∙ ap (λ f. f e.span.start) (fold_out-Node (ℕ → List A) (List A) (List A) (List A) (List A) (List A) (List A) node in_case in_change in_expr in_lambda in_last in_part e.node)

  lambda_level : (l : LambdaExpr) → of_lambda l ≡ of l.body
  lambda_level l = fold_out-LambdaExpr (ℕ → List A) (List A) (List A) (List A) (List A) (List A) (List A) node in_case in_change in_expr in_lambda in_last in_part l

  case_level : (case : Case) → of_case case ≡ of case.body
  case_level case = fold_out-Case (ℕ → List A) (List A) (List A) (List A) (List A) (List A) (List A) node in_case in_change in_expr in_lambda in_last in_part case

  last_level : (last : LastCase) → of_last last ≡ of last.body
  last_level last = fold_out-LastCase (ℕ → List A) (List A) (List A) (List A) (List A) (List A) (List A) node in_case in_change in_expr in_lambda in_last in_part last

  part_level : (part : PartExpr) → of_part part ≡ of part.expr
  part_level part = fold_out-PartExpr (ℕ → List A) (List A) (List A) (List A) (List A) (List A) (List A) node in_case in_change in_expr in_lambda in_last in_part part

  exprs_level : (es : List Expr) → all (map of es) ≡ flat_map of es
  exprs_level es = flat_map-map (λ found. found) of es

  parts_level : (parts : List PartExpr) → all (map of_part parts) ≡ flat_map of (exprs_of parts)
  parts_level [] = refl
  parts_level (part ∷ parts) = ap₂ (λ a b. a ++ b) (part_level part) (parts_level parts)

  cases_level : (cases : List Case) (last : List Expr) (found : List (List A)) → all found ≡ flat_map of last → all (map of_case cases ++ found) ≡ flat_map of (bodies_of cases ++ last)
  cases_level [] last found is = is
  cases_level (case ∷ cases) last found is = ap₂ (λ a b. a ++ b) (case_level case) (cases_level cases last found is)

  fields_level : (parts : List PartExpr) → all (map (λ found. found) (map of_part parts)) ≡ flat_map of (exprs_of parts)
  fields_level [] = refl
  fields_level (part ∷ parts) = ap₂ (λ a b. a ++ b) (part_level part) (fields_level parts)

  and_one : (parts : List PartExpr) (e : Expr) → all (map (λ found. found) (map of_part parts) ++ of e ∷ []) ≡ flat_map of (exprs_of parts ++ e ∷ [])
  and_one [] e = refl
  and_one (part ∷ parts) e = ap₂ (λ a b. a ++ b) (part_level part) (and_one parts e)

  change_inside : (change : ChangeExpr) → of_change change ≡ of (out-ChangeExpr change).cond ++ flat_map of (exprs_of (out-ChangeExpr change).sets)
  change_inside change =
      fold_out-ChangeExpr (ℕ → List A) (List A) (List A) (List A) (List A) (List A) (List A) node in_case in_change in_expr in_lambda in_last in_part change
      ∙ ap (λ r. of (out-ChangeExpr change).cond ++ r) (parts_level (out-ChangeExpr change).sets)

  -- where it is all of what begins in its parts, it is all of what begins right inside
  pub inner_level : (l : Layer) → all (inner (mapped l)) ≡ flat_map of (insides l)
  inner_level (Node-F.Lambda l) = ap (λ a. a ++ []) (lambda_level l)
  inner_level (Node-F.Call g args) = exprs_level args
  inner_level (Node-F.Apply f args) = ap (λ a. of f ++ a) (exprs_level args)
  inner_level (Node-F.Record parts) = fields_level parts
  inner_level (Node-F.Extend parts e) = and_one parts e
  inner_level (Node-F.List items) = exprs_level items
  inner_level (Node-F.Switch d cases None) = ap (λ a. of d ++ a) (cases_level cases [] [] refl)
  inner_level (Node-F.Switch d cases (Some last)) = ap (λ a. of d ++ a) (cases_level cases (last.body ∷ []) (of_last last ∷ []) (ap (λ a. a ++ []) (last_level last)))
  inner_level (Node-F.Update change) = append-nil (of_change change) ∙ change_inside change
  inner_level (Node-F.Delete change) = append-nil (of_change change) ∙ change_inside change
  inner_level other = refl

-- ---- uses and labels

abbrev pub own_use : Layer → ℕ → List PlacedUse
own_use (Node-F.Function g) site = use_at g site ∷ []
own_use (Node-F.Call g args) site = use_at g.text site ∷ []
own_use other site = []

uses_node : (l : Layer) (site : ℕ) → outer_node_uses (mapped outer_node_uses l) site ≡ own_use l site ++ flat_map outer_uses (outer l)
unfolding outer_uses
uses_node (Node-F.Function g) site = refl
uses_node (Node-F.Call g args) site = ap (λ r. use_at g.text site ∷ r) (exprs_level outer_node_uses args)
uses_node (Node-F.Query keys e) site = refl
uses_node (Node-F.Update change) site = refl
uses_node (Node-F.Delete change) site = refl
uses_node other site = inner_level outer_node_uses other

-- the uses in an expression: its own, and those right inside it
pub uses_level : (e : Expr) → outer_uses e ≡ own_use (layer e) e.span.start ++ flat_map outer_uses (outer (layer e))
unfolding outer_uses
uses_level e = expr_level outer_node_uses e ∙ uses_node (layer e) e.span.start

abbrev pub own_label : Layer → ℕ → List ℕ
own_label (Node-F.Lambda l) site = site ∷ []
own_label (Node-F.Table t) site = site ∷ []
own_label (Node-F.Insert t e) site = site ∷ []
own_label (Node-F.Query keys e) site = site ∷ []
own_label (Node-F.Update change) site = site ∷ []
own_label (Node-F.Delete change) site = site ∷ []
own_label other site = []

labelled_node : (l : Layer) (site : ℕ) → node_labelled (mapped node_labelled l) site ≡ own_label l site ++ flat_map labelled_in (outer l)
unfolding labelled_in
labelled_node (Node-F.Lambda l) site = ap (λ r. site ∷ r) (lambda_level node_labelled l ∙ sym (append-nil _))
labelled_node (Node-F.Table t) site = refl
labelled_node (Node-F.Insert t e) site = ap (λ r. site ∷ r) (sym (append-nil _))
labelled_node (Node-F.Query keys e) site = refl
labelled_node (Node-F.Update change) site = refl
labelled_node (Node-F.Delete change) site = refl
labelled_node other site = inner_level node_labelled other

pub labelled_level : (e : Expr) → labelled_in e ≡ own_label (layer e) e.span.start ++ flat_map labelled_in (outer (layer e))
unfolding labelled_in
labelled_level e = expr_level node_labelled e ∙ labelled_node (layer e) e.span.start
