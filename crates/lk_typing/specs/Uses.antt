-- The functions of the program that an expression uses, in text order, once for each use.
use Rattle.std.specs.Prelude.{List, [], ◌∷◌, ◌++◌, Option, Some, flat_map}
use Rattle.std.specs.List.{cons_option}
use Rattle.lk_ast.specs.declared.expression.Expr.{Expr, Expr-F, fold-Expr}
use Rattle.lk_ast.specs.declared.expression.Node.TheOpen.{Node-F, Case-F, ChangeExpr-F, LambdaExpr-F, LastCase-F, PartExpr-F}
use Rattle.lk_types.specs.Rows.{Label}
use Rattle.lk_typing.specs.Heads as operator
use Rattle.lk_typing.specs.Heads.{Head, head, parts}

abbrev pub Uses : Type 0
Uses = List Label

abbrev pub all : List Uses → Uses
all = flat_map (λ uses. uses)

-- the expressions in a node, in text order
abbrev pub inner : Node-F Uses Uses Uses Uses Uses Uses Uses → List Uses
inner (Node-F.Lambda lambda) = lambda ∷ []
inner (Node-F.Var x e rest) = e ∷ rest ∷ []
inner (Node-F.Switch e cases last) = e ∷ (cases ++ cons_option last [])
inner (Node-F.ForList x e body) = e ∷ body ∷ []
inner (Node-F.ForTable x rows body) = rows ∷ body ∷ []
inner (Node-F.Query keys e) = e ∷ []
inner (Node-F.Update change) = change ∷ []
inner (Node-F.Delete change) = change ∷ []
inner other = parts (λ uses. []) (λ uses. uses) other

abbrev pub own_use : Option Head → Uses
own_use (Some (operator.Function g)) = g ∷ []
own_use (Some (operator.Call g)) = g ∷ []
own_use other = []

abbrev pub node_uses : Node-F Uses Uses Uses Uses Uses Uses Uses → Uses
node_uses node = own_use (head (λ uses. []) (λ uses. uses) node) ++ all (inner node)

abbrev pub case_uses : Case-F Uses Uses Uses Uses Uses Uses Uses → Uses
case_uses case = case.body

abbrev pub change_uses : ChangeExpr-F Uses Uses Uses Uses Uses Uses Uses → Uses
change_uses change = change.cond ++ all change.sets

abbrev pub expr_uses : Expr-F Uses Uses Uses Uses Uses Uses Uses → Uses
expr_uses e = e.node

abbrev pub lambda_uses : LambdaExpr-F Uses Uses Uses Uses Uses Uses Uses → Uses
lambda_uses lambda = lambda.body

abbrev pub last_uses : LastCase-F Uses Uses Uses Uses Uses Uses Uses → Uses
last_uses last = last.body

abbrev pub part_uses : PartExpr-F Uses Uses Uses Uses Uses Uses Uses → Uses
part_uses part = part.expr

unfoldable pub functions_used : Expr → Uses
functions_used = fold-Expr Uses Uses Uses Uses Uses Uses Uses node_uses case_uses change_uses expr_uses lambda_uses last_uses part_uses
