-- What begins where in an expression, in text order: the uses of functions of the program, and what is labelled.
use Rattle.std.specs.Prelude.{ℕ, List, [], ◌∷◌, ◌++◌}
use Rattle.std.specs.List.{flat_map, cons_option}
use Rattle.lk_ast.specs.declared.expression.Expr.{Expr, Expr-F, fold-Expr}
use Rattle.lk_ast.specs.declared.expression.Node.TheOpen.{Node-F, Case-F, ChangeExpr-F, LambdaExpr-F, LastCase-F, PartExpr-F}
use Rattle.lk_types.specs.Rows.{Label}
use Rattle.lk_typing.specs.Heads.{parts}

-- a use of a function of the program, and where it begins
pub record PlacedUse : Type 0 where
  pub site : ℕ
  pub name : Label

module _ {A : Type 0} where
  abbrev pub all : List (List A) → List A
  all = flat_map (λ found. found)

  -- the expressions in a node, in text order
  abbrev pub inner : Node-F (ℕ → List A) (List A) (List A) (List A) (List A) (List A) (List A) → List (List A)
  inner (Node-F.Lambda lambda) = lambda ∷ []
  inner (Node-F.Var x e rest) = e ∷ rest ∷ []
  inner (Node-F.Switch e cases last) = e ∷ (cases ++ cons_option last [])
  inner (Node-F.ForList x e body) = e ∷ body ∷ []
  inner (Node-F.ForTable x rows body) = rows ∷ body ∷ []
  inner (Node-F.Query keys e) = e ∷ []
  inner (Node-F.Update change) = change ∷ []
  inner (Node-F.Delete change) = change ∷ []
  inner other = parts (λ found. []) (λ found. found) other

  abbrev pub in_case : Case-F (ℕ → List A) (List A) (List A) (List A) (List A) (List A) (List A) → List A
  in_case case = case.body

  abbrev pub in_change : ChangeExpr-F (ℕ → List A) (List A) (List A) (List A) (List A) (List A) (List A) → List A
  in_change change = change.cond ++ all change.sets

  abbrev pub in_expr : Expr-F (ℕ → List A) (List A) (List A) (List A) (List A) (List A) (List A) → List A
  in_expr e = e.node e.span.start

  abbrev pub in_lambda : LambdaExpr-F (ℕ → List A) (List A) (List A) (List A) (List A) (List A) (List A) → List A
  in_lambda lambda = lambda.body

  abbrev pub in_last : LastCase-F (ℕ → List A) (List A) (List A) (List A) (List A) (List A) (List A) → List A
  in_last last = last.body

  abbrev pub in_part : PartExpr-F (ℕ → List A) (List A) (List A) (List A) (List A) (List A) (List A) → List A
  in_part part = part.expr

-- ---- uses of functions

abbrev pub use_at : Label → ℕ → PlacedUse
use_at g site = record { site = site; name = g }

abbrev pub node_uses : Node-F (ℕ → List PlacedUse) (List PlacedUse) (List PlacedUse) (List PlacedUse) (List PlacedUse) (List PlacedUse) (List PlacedUse) → ℕ → List PlacedUse
node_uses (Node-F.Function g) site = use_at g site ∷ []
node_uses (Node-F.Call g args) site = use_at g.text site ∷ all args
node_uses other site = all (inner other)

-- all uses
unfoldable pub uses_in : Expr → List PlacedUse
uses_in = fold-Expr (ℕ → List PlacedUse) (List PlacedUse) (List PlacedUse) (List PlacedUse) (List PlacedUse) (List PlacedUse) (List PlacedUse) node_uses in_case in_change in_expr in_lambda in_last in_part

abbrev pub outer_node_uses : Node-F (ℕ → List PlacedUse) (List PlacedUse) (List PlacedUse) (List PlacedUse) (List PlacedUse) (List PlacedUse) (List PlacedUse) → ℕ → List PlacedUse
outer_node_uses (Node-F.Query keys e) site = []
outer_node_uses (Node-F.Update change) site = []
outer_node_uses (Node-F.Delete change) site = []
outer_node_uses other site = node_uses other site

-- those outside of queries, updates and deletions
unfoldable pub outer_uses : Expr → List PlacedUse
outer_uses = fold-Expr (ℕ → List PlacedUse) (List PlacedUse) (List PlacedUse) (List PlacedUse) (List PlacedUse) (List PlacedUse) (List PlacedUse) outer_node_uses in_case in_change in_expr in_lambda in_last in_part

-- ---- what is labelled

-- lambdas, queries, reads of tables, insertions, updates and deletions, but nothing inside a query, an update or a deletion
abbrev pub node_labelled : Node-F (ℕ → List ℕ) (List ℕ) (List ℕ) (List ℕ) (List ℕ) (List ℕ) (List ℕ) → ℕ → List ℕ
node_labelled (Node-F.Lambda lambda) site = site ∷ lambda
node_labelled (Node-F.Table t) site = site ∷ []
node_labelled (Node-F.Insert t e) site = site ∷ e
node_labelled (Node-F.Query keys e) site = site ∷ []
node_labelled (Node-F.Update change) site = site ∷ []
node_labelled (Node-F.Delete change) site = site ∷ []
node_labelled other site = all (inner other)

unfoldable pub labelled_in : Expr → List ℕ
labelled_in = fold-Expr (ℕ → List ℕ) (List ℕ) (List ℕ) (List ℕ) (List ℕ) (List ℕ) (List ℕ) node_labelled in_case in_change in_expr in_lambda in_last in_part
