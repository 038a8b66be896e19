-- The functions that an expression uses, by its level: its own use, and those in its parts.
use Rattle.std.proofs.Common.{◌≡◌, List, [], ◌∷◌, ◌++◌, map, Some, refl, ap, ap₂, ◌∙◌}
use Rattle.std.proofs.lemmas.Option.{none-some}
use Rattle.lk_ast.specs.Children.{exprs_of}
use Rattle.lk_ast.specs.Layers.{Layer, layer}
use Rattle.lk_ast.specs.declared.expression.Case.{Case, fold-Case, fold_out-Case}
use Rattle.lk_ast.specs.declared.expression.ChangeExpr.{ChangeExpr, out-ChangeExpr, fold-ChangeExpr, fold_out-ChangeExpr}
use Rattle.lk_ast.specs.declared.expression.Expr.{Expr, fold_out-Expr}
use Rattle.lk_ast.specs.declared.expression.LambdaExpr.{LambdaExpr, fold-LambdaExpr, fold_out-LambdaExpr}
use Rattle.lk_ast.specs.declared.expression.LastCase.{LastCase, fold-LastCase, fold_out-LastCase}
use Rattle.lk_ast.specs.declared.expression.Node.{Node, fold-Node, fold_out-Node}
use Rattle.lk_ast.specs.declared.expression.Node.TheFolds.{map-Node}
use Rattle.lk_ast.specs.declared.expression.Node.TheOpen.{Node-F}
use Rattle.lk_ast.specs.declared.expression.PartExpr.{PartExpr, fold-PartExpr, fold_out-PartExpr}
use Rattle.lk_typing.proofs.Levels.{parts_mapped}
use Rattle.lk_typing.specs.Heads.{Head, head, parts}
use Rattle.lk_typing.specs.Typing.{label_of, expr_of, head_of, parts_of}
use Rattle.lk_typing.specs.Uses.{Uses, all, case_uses, change_uses, expr_uses, functions_used, inner, lambda_uses, last_uses, node_uses, own_use, part_uses}

abbrev pub of_case : Case → Uses
of_case = fold-Case Uses Uses Uses Uses Uses Uses Uses node_uses case_uses change_uses expr_uses lambda_uses last_uses part_uses

abbrev pub of_change : ChangeExpr → Uses
of_change = fold-ChangeExpr Uses Uses Uses Uses Uses Uses Uses node_uses case_uses change_uses expr_uses lambda_uses last_uses part_uses

abbrev pub of_lambda : LambdaExpr → Uses
of_lambda = fold-LambdaExpr Uses Uses Uses Uses Uses Uses Uses node_uses case_uses change_uses expr_uses lambda_uses last_uses part_uses

abbrev pub of_last : LastCase → Uses
of_last = fold-LastCase Uses Uses Uses Uses Uses Uses Uses node_uses case_uses change_uses expr_uses lambda_uses last_uses part_uses

abbrev of_part : PartExpr → Uses
of_part = fold-PartExpr Uses Uses Uses Uses Uses Uses Uses node_uses case_uses change_uses expr_uses lambda_uses last_uses part_uses

abbrev of_node : Node → Uses
of_node = fold-Node Uses Uses Uses Uses Uses Uses Uses node_uses case_uses change_uses expr_uses lambda_uses last_uses part_uses

-- a level with what its parts use
abbrev pub mapped : Layer → Node-F Uses Uses Uses Uses Uses Uses Uses
mapped = map-Node Node Case ChangeExpr Expr LambdaExpr LastCase PartExpr Uses Uses Uses Uses Uses Uses Uses of_node of_case of_change functions_used of_lambda of_last of_part

pub uses_level : (e : Expr) → functions_used e ≡ node_uses (mapped (layer e))
unfolding functions_used
uses_level e =
    fold_out-Expr Uses Uses Uses Uses Uses Uses Uses node_uses case_uses change_uses expr_uses lambda_uses last_uses part_uses e
    ∙ fold_out-Node Uses Uses Uses Uses Uses Uses Uses node_uses case_uses change_uses expr_uses lambda_uses last_uses part_uses e.node

pub lambda_level : (l : LambdaExpr) → of_lambda l ≡ functions_used l.body
unfolding functions_used
lambda_level l = fold_out-LambdaExpr Uses Uses Uses Uses Uses Uses Uses node_uses case_uses change_uses expr_uses lambda_uses last_uses part_uses l

pub case_level : (case : Case) → of_case case ≡ functions_used case.body
unfolding functions_used
case_level case = fold_out-Case Uses Uses Uses Uses Uses Uses Uses node_uses case_uses change_uses expr_uses lambda_uses last_uses part_uses case

pub last_level : (last : LastCase) → of_last last ≡ functions_used last.body
unfolding functions_used
last_level last = fold_out-LastCase Uses Uses Uses Uses Uses Uses Uses node_uses case_uses change_uses expr_uses lambda_uses last_uses part_uses last

part_level : (part : PartExpr) → of_part part ≡ functions_used part.expr
unfolding functions_used
part_level part = fold_out-PartExpr Uses Uses Uses Uses Uses Uses Uses node_uses case_uses change_uses expr_uses lambda_uses last_uses part_uses part

parts_level : (parts : List PartExpr) → map of_part parts ≡ map functions_used (exprs_of parts)
parts_level [] = refl
parts_level (part ∷ parts) = ap₂ (λ u us. u ∷ us) (part_level part) (parts_level parts)

change_by_parts : (change : ChangeExpr) → of_change change ≡ functions_used (out-ChangeExpr change).cond ++ all (map of_part (out-ChangeExpr change).sets)
unfolding functions_used
change_by_parts change = fold_out-ChangeExpr Uses Uses Uses Uses Uses Uses Uses node_uses case_uses change_uses expr_uses lambda_uses last_uses part_uses change

pub change_level : (change : ChangeExpr) → of_change change ≡ functions_used (out-ChangeExpr change).cond ++ all (map functions_used (exprs_of (out-ChangeExpr change).sets))
change_level change = change_by_parts change ∙ ap (λ us. functions_used (out-ChangeExpr change).cond ++ all us) (parts_level (out-ChangeExpr change).sets)

-- ---- operators

own_mapped : (l : Layer) → own_use (head (λ uses. []) (λ uses. uses) (mapped l)) ≡ own_use (head label_of expr_of l)
own_mapped (Node-F.Int n) = refl
own_mapped other = refl

inner_mapped : (l : Layer) (h : Head) → head label_of expr_of l ≡ Some h → inner (mapped l) ≡ parts (λ uses. []) (λ uses. uses) (mapped l)
inner_mapped (Node-F.Lambda l) h is = absurd (none-some h is)
inner_mapped (Node-F.Var x d rest) h is = absurd (none-some h is)
inner_mapped (Node-F.Switch d cases last) h is = absurd (none-some h is)
inner_mapped (Node-F.ForList x d body) h is = absurd (none-some h is)
inner_mapped (Node-F.ForTable x rows body) h is = absurd (none-some h is)
inner_mapped (Node-F.Query keys d) h is = absurd (none-some h is)
inner_mapped (Node-F.Update change) h is = absurd (none-some h is)
inner_mapped (Node-F.Delete change) h is = absurd (none-some h is)
inner_mapped other h is = refl

pub plain_level : (e : Expr) (h : Head) → head_of e ≡ Some h → functions_used e ≡ own_use (Some h) ++ all (map functions_used (parts_of e))
plain_level e h is =
    uses_level e
    ∙ ap₂ (λ own us. own ++ all us) (own_mapped (layer e) ∙ ap own_use is)
    (inner_mapped (layer e) h is
    ∙ parts_mapped label_of expr_of (λ uses. []) (λ uses. uses) of_node of_case of_change functions_used of_lambda of_last of_part part_level (layer e))

pub binder_level : (e : Expr) (l : Layer) → layer e ≡ l → functions_used e ≡ node_uses (mapped l)
binder_level e l is = uses_level e ∙ ap (λ (m : Layer). node_uses (mapped m)) is
