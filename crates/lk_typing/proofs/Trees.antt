-- Expressions as trees of the forms that the rules are about, for inductions over them.
use Rattle.std.proofs.Common.{◌≡◌, List, [], ◌∷◌, map, Option, Some, None, refl, ap, subst, sym, ◌∙◌}
use Rattle.lk_ast.specs.Children.{exprs_of}
use Rattle.lk_ast.specs.Layers.{Layer, layer}
use Rattle.lk_ast.specs.declared.expression.Case.{Case}
use Rattle.lk_ast.specs.declared.expression.ChangeExpr.{ChangeExpr, out-ChangeExpr, roll-ChangeExpr, out-roll-ChangeExpr}
use Rattle.lk_ast.specs.declared.expression.Expr.{Expr, ind-Expr}
use Rattle.lk_ast.specs.declared.expression.LambdaExpr.{LambdaExpr}
use Rattle.lk_ast.specs.declared.expression.LastCase.{LastCase}
use Rattle.lk_ast.specs.declared.expression.Node.{Node, out-roll-Node}
use Rattle.lk_ast.specs.declared.expression.Node.TheFolds.{map-Node}
use Rattle.lk_ast.specs.declared.expression.Node.TheOpen.{Node-F}
use Rattle.lk_ast.specs.declared.expression.PartExpr.{PartExpr}
use Rattle.lk_ast.specs.declared.expression.SortKey.{SortKey}
use Rattle.lk_ast.specs.declared.place.Span.{Span}
use Rattle.lk_ast.specs.declared.place.Word.{Word}
use Rattle.lk_types.specs.Rows.{Label}
use Rattle.lk_typing.proofs.Levels.{head_mapped, parts_mapped}
use Rattle.lk_typing.specs.Heads.{Head, head, parts}
use Rattle.lk_typing.specs.Typing.{label_of, expr_of, head_of, parts_of}

mutual
  -- an expression with all those in it
  pub data Tree : Expr → Type 0 where
    -- an operator over its parts
    plain : {e : Expr} (h : Head) → head_of e ≡ Some h → Trees (parts_of e) → Tree e
    lambda : {e : Expr} (l : LambdaExpr) → layer e ≡ Node-F.Lambda l → Tree l.body → Tree e
    var : {e : Expr} (x : Word) (d rest : Expr) → layer e ≡ Node-F.Var x d rest → Tree d → Tree rest → Tree e
    switch : {e : Expr} (d : Expr) (cases : List Case) (last : Option LastCase) → layer e ≡ Node-F.Switch d cases last → Tree d → CaseTrees cases → LastTree last → Tree e
    for_list : {e : Expr} (x : Word) (d body : Expr) → layer e ≡ Node-F.ForList x d body → Tree d → Tree body → Tree e
    for_table : {e : Expr} (x : Word) (rows body : Expr) → layer e ≡ Node-F.ForTable x rows body → Tree rows → Tree body → Tree e
    query : {e : Expr} (keys : List SortKey) (body : Expr) → layer e ≡ Node-F.Query keys body → Tree body → Tree e
    update : {e : Expr} (change : ChangeExpr) → layer e ≡ Node-F.Update change → ChangeTree change → Tree e
    delete : {e : Expr} (change : ChangeExpr) → layer e ≡ Node-F.Delete change → ChangeTree change → Tree e

  pub data Trees : List Expr → Type 0 where
    none : Trees []
    more : {e : Expr} {es : List Expr} → Tree e → Trees es → Trees (e ∷ es)

  pub data CaseTrees : List Case → Type 0 where
    no_cases : CaseTrees []
    case_of : {case : Case} {cases : List Case} → Tree case.body → CaseTrees cases → CaseTrees (case ∷ cases)

  pub data LastTree : Option LastCase → Type 0 where
    no_last : LastTree None
    last_of : {last : LastCase} → Tree last.body → LastTree (Some last)

  -- the condition and what is set
  pub data ChangeTree : ChangeExpr → Type 0 where
    changed : {change : ChangeExpr} → Tree (out-ChangeExpr change).cond → Trees (exprs_of (out-ChangeExpr change).sets) → ChangeTree change

-- ---- every expression is such a tree

abbrev at_span : Span → Node → Expr
at_span span node = record { span = span; node = node }

abbrev NodeTree : Node → Type 0
NodeTree node = (span : Span) → Tree (at_span span node)

abbrev SuchNode : Type 0
SuchNode = (node : Node) × NodeTree node

abbrev SuchCase : Type 0
SuchCase = (case : Case) × Tree case.body

abbrev SuchChange : Type 0
SuchChange = (change : ChangeExpr) × ChangeTree change

abbrev SuchExpr : Type 0
SuchExpr = (e : Expr) × Tree e

abbrev SuchLambda : Type 0
SuchLambda = (l : LambdaExpr) × Tree l.body

abbrev SuchLast : Type 0
SuchLast = (last : LastCase) × Tree last.body

abbrev SuchPart : Type 0
SuchPart = (part : PartExpr) × Tree part.expr

-- a level with the trees of its parts
abbrev Grown : Type 0
Grown = Node-F SuchNode SuchCase SuchChange SuchExpr SuchLambda SuchLast SuchPart

abbrev bare : Grown → Layer
bare = map-Node SuchNode SuchCase SuchChange SuchExpr SuchLambda SuchLast SuchPart Node Case ChangeExpr Expr LambdaExpr LastCase PartExpr
    (λ y. y.0) (λ y. y.0) (λ y. y.0) (λ y. y.0) (λ y. y.0) (λ y. y.0) (λ y. y.0)

abbrev such_label : SuchPart → Label
such_label part = part.0.label.text

abbrev such_expr : SuchPart → SuchExpr
such_expr part = (part.0.expr, part.1)

trees_of : (es : List SuchExpr) → Trees (map (λ e. e.0) es)
trees_of [] = none
trees_of (e ∷ es) = more e.1 (trees_of es)

case_trees_of : (cases : List SuchCase) → CaseTrees (map (λ case. case.0) cases)
case_trees_of [] = no_cases
case_trees_of (case ∷ cases) = case_of case.1 (case_trees_of cases)

set_trees_of : (sets : List SuchPart) → Trees (exprs_of (map (λ part. part.0) sets))
set_trees_of [] = none
set_trees_of (part ∷ sets) = more part.1 (set_trees_of sets)

bare_head : (y : Grown) → head label_of expr_of (bare y) ≡ head such_label such_expr y
bare_head y = head_mapped such_label such_expr label_of expr_of (λ n. n.0) (λ c. c.0) (λ h. h.0) (λ e. e.0) (λ l. l.0) (λ s. s.0) (λ p. p.0) (λ part. refl) y

bare_parts : (y : Grown) → parts label_of expr_of (bare y) ≡ map (λ e. e.0) (parts such_label such_expr y)
bare_parts y = parts_mapped such_label such_expr label_of expr_of (λ n. n.0) (λ c. c.0) (λ h. h.0) (λ e. e.0) (λ l. l.0) (λ s. s.0) (λ p. p.0) (λ part. refl) y

plain_of : (e : Expr) (y : Grown) (h : Head) → head such_label such_expr y ≡ Some h → layer e ≡ bare y → Tree e
plain_of e y h head_is is =
    plain h (ap (head label_of expr_of) is ∙ bare_head y ∙ head_is) (subst Trees (sym (ap (parts label_of expr_of) is ∙ bare_parts y)) (trees_of (parts such_label such_expr y)))

tree_of : (e : Expr) (y : Grown) → layer e ≡ bare y → Tree e
tree_of e (Node-F.Lambda l) is = lambda _ is l.1
tree_of e (Node-F.Var x d rest) is = var _ _ _ is d.1 rest.1
tree_of e (Node-F.Switch d cases None) is = switch _ _ _ is d.1 (case_trees_of cases) no_last
tree_of e (Node-F.Switch d cases (Some last)) is = switch _ _ _ is d.1 (case_trees_of cases) (last_of last.1)
tree_of e (Node-F.ForList x d body) is = for_list _ _ _ is d.1 body.1
tree_of e (Node-F.ForTable x rows body) is = for_table _ _ _ is rows.1 body.1
tree_of e (Node-F.Query keys body) is = query _ _ is body.1
tree_of e (Node-F.Update change) is = update _ is change.1
tree_of e (Node-F.Delete change) is = delete _ is change.1
tree_of e other is = plain_of e other _ refl is

pub every_tree : (e : Expr) → Tree e
every_tree = ind-Expr NodeTree (λ case. Tree case.body) ChangeTree Tree (λ l. Tree l.body) (λ last. Tree last.body) (λ part. Tree part.expr)
    (λ x y is span. tree_of _ y (out-roll-Node x ∙ sym is))
    (λ x y is. subst (λ z. Tree z.body) is y.body.1)
    (λ x y is. subst (λ z. ChangeTree (roll-ChangeExpr z)) is (changed (subst (λ z. Tree z.cond) (sym (out-roll-ChangeExpr _)) y.cond.1) (subst (λ z. Trees (exprs_of z.sets)) (sym (out-roll-ChangeExpr _)) (set_trees_of y.sets))))
    (λ x y is. subst (λ z. Tree (at_span z.span z.node)) is (y.node.1 y.span))
    (λ x y is. subst (λ z. Tree z.body) is y.body.1)
    (λ x y is. subst (λ z. Tree z.body) is y.body.1)
    (λ x y is. subst (λ z. Tree z.expr) is y.expr.1)
