-- The expressions right inside an expression, and induction over expressions by them.
use Rattle.std.proofs.Common.{◌≡◌, List, [], ◌∷◌, ◌++◌, map, Option, Some, None, refl, sym, subst}
use Rattle.std.proofs.lemmas.Option.{none-some}
use Rattle.lk_ast.specs.Children.{exprs_of}
use Rattle.lk_ast.specs.Layers.{Layer, layer}
use Rattle.lk_ast.specs.declared.expression.Case.{Case}
use Rattle.lk_ast.specs.declared.expression.ChangeExpr.{ChangeExpr, out-ChangeExpr}
use Rattle.lk_ast.specs.declared.expression.Expr.{Expr}
use Rattle.lk_ast.specs.declared.expression.LastCase.{LastCase}
use Rattle.lk_ast.specs.declared.expression.Node.TheOpen.{Node-F}
use Rattle.lk_types.proofs.Members.{each_both}
use Rattle.lk_types.specs.Each.{Each}
use Rattle.lk_typing.specs.Heads.{Head, head, parts}
use Rattle.lk_typing.specs.Typing.{label_of, expr_of, parts_of}
use Rattle.lk_typing.proofs.Trees.{Tree, Trees, CaseTrees, LastTree, ChangeTree, every_tree}

abbrev pub bodies_of : List Case → List Expr
bodies_of cases = map (λ (case : Case). case.body) cases

abbrev pub last_body : Option LastCase → List Expr
last_body None = []
last_body (Some last) = last.body ∷ []

-- the condition and what is set
abbrev pub inside_change : ChangeExpr → List Expr
inside_change change = (out-ChangeExpr change).cond ∷ exprs_of (out-ChangeExpr change).sets

-- the expressions right inside it, in text order
abbrev pub insides : Layer → List Expr
insides (Node-F.Lambda l) = l.body ∷ []
insides (Node-F.Var x d rest) = d ∷ rest ∷ []
insides (Node-F.Switch d cases last) = d ∷ (bodies_of cases ++ last_body last)
insides (Node-F.ForList x d body) = d ∷ body ∷ []
insides (Node-F.ForTable x rows body) = rows ∷ body ∷ []
insides (Node-F.Query keys d) = d ∷ []
insides (Node-F.Update change) = inside_change change
insides (Node-F.Delete change) = inside_change change
insides other = parts label_of expr_of other

-- those of an operator are its parts
operator_insides : (l : Layer) (h : Head) → head label_of expr_of l ≡ Some h → parts label_of expr_of l ≡ insides l
operator_insides (Node-F.Lambda l) h is = absurd (none-some h is)
operator_insides (Node-F.Var x d rest) h is = absurd (none-some h is)
operator_insides (Node-F.Switch d cases last) h is = absurd (none-some h is)
operator_insides (Node-F.ForList x d body) h is = absurd (none-some h is)
operator_insides (Node-F.ForTable x rows body) h is = absurd (none-some h is)
operator_insides (Node-F.Query keys d) h is = absurd (none-some h is)
operator_insides (Node-F.Update change) h is = absurd (none-some h is)
operator_insides (Node-F.Delete change) h is = absurd (none-some h is)
operator_insides other h is = refl

module _ (P : Expr → Type 0) (step : (e : Expr) → Each P (insides (layer e)) → P e) where
  from_layer : (e : Expr) (l : Layer) → layer e ≡ l → Each P (insides l) → P e
  from_layer e l is all = step e (subst (λ l. Each P (insides l)) (sym is) all)

  mutual
    in_tree : (e : Expr) → Tree e → P e
    in_tree e (Tree.plain h is trees) = step e (subst (Each P) (operator_insides (layer e) h is) (in_trees (parts_of e) trees))
    in_tree e (Tree.lambda l is body) = from_layer e _ is (in_tree _ body, tt)
    in_tree e (Tree.var x d rest is bound next) = from_layer e _ is (in_tree _ bound, (in_tree _ next, tt))
    in_tree e (Tree.switch d cases last is first bodies final) = from_layer e _ is (in_tree _ first, each_both P (bodies_of cases) (last_body last) (in_cases cases bodies) (in_last last final))
    in_tree e (Tree.for_list x d body is list inner) = from_layer e _ is (in_tree _ list, (in_tree _ inner, tt))
    in_tree e (Tree.for_table x rows body is table inner) = from_layer e _ is (in_tree _ table, (in_tree _ inner, tt))
    in_tree e (Tree.query keys body is inner) = from_layer e _ is (in_tree _ inner, tt)
    in_tree e (Tree.update change is inner) = from_layer e _ is (in_change change inner)
    in_tree e (Tree.delete change is inner) = from_layer e _ is (in_change change inner)

    in_trees : (es : List Expr) → Trees es → Each P es
    in_trees es Trees.none = tt
    in_trees es (Trees.more first others) = (in_tree _ first, in_trees _ others)

    in_cases : (cases : List Case) → CaseTrees cases → Each P (bodies_of cases)
    in_cases cases CaseTrees.no_cases = tt
    in_cases cases (CaseTrees.case_of body others) = (in_tree _ body, in_cases _ others)

    in_last : (last : Option LastCase) → LastTree last → Each P (last_body last)
    in_last last LastTree.no_last = tt
    in_last last (LastTree.last_of body) = (in_tree _ body, tt)

    in_change : (change : ChangeExpr) → ChangeTree change → Each P (inside_change change)
    in_change change (ChangeTree.changed cond sets) = (in_tree _ cond, in_trees _ sets)

  -- what holds of an expression where it holds of those right inside it holds of every expression
  pub by_insides : (e : Expr) → P e
  by_insides e = in_tree e (every_tree e)
