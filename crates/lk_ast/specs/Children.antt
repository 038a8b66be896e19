-- What stands in a node, in text order, where it is known what stands in each of its parts. The expressions of fields.
use Rattle.std.specs.Prelude.{List, [], ◌∷◌, ◌++◌, Option, Some, None, map}
use Rattle.std.specs.List.{flat_map}
use Rattle.lk_ast.specs.declared.expression.Expr.{Expr}
use Rattle.lk_ast.specs.declared.expression.Node.TheOpen.{Node-F}
use Rattle.lk_ast.specs.declared.expression.PartExpr.{PartExpr}

-- the expressions of `l = e, m = d`
abbrev pub exprs_of : List PartExpr → List Expr
exprs_of parts = map (λ (part : PartExpr). part.expr) parts

abbrev pub in_some : {A S : Type 0} → (S → List A) → Option S → List A
in_some inside None = []
in_some inside (Some part) = inside part

module _ {A N C H E L S P : Type 0} (expr : E → List A) (case : C → List A) (change : H → List A) (lambda : L → List A) (last : S → List A) (part : P → List A) where
  abbrev pub children : Node-F N C H E L S P → List A
  children (Node-F.Int number) = []
  children (Node-F.Text text) = []
  children (Node-F.Bool truth) = []
  children (Node-F.Name x) = []
  children (Node-F.Function g) = []
  children (Node-F.Table t) = []
  children (Node-F.Lambda l) = lambda l
  children (Node-F.Call g args) = flat_map expr args
  children (Node-F.Apply f args) = expr f ++ flat_map expr args
  children (Node-F.Var x e rest) = expr e ++ expr rest
  children (Node-F.Seq e rest) = expr e ++ expr rest
  children (Node-F.If c d e) = expr c ++ expr d ++ expr e
  children (Node-F.And a b) = expr a ++ expr b
  children (Node-F.Or a b) = expr a ++ expr b
  children (Node-F.Concat a b) = expr a ++ expr b
  children (Node-F.Append a b) = expr a ++ expr b
  children (Node-F.Cons a b) = expr a ++ expr b
  children (Node-F.Add a b) = expr a ++ expr b
  children (Node-F.Sub a b) = expr a ++ expr b
  children (Node-F.Mul a b) = expr a ++ expr b
  children (Node-F.Div a b) = expr a ++ expr b
  children (Node-F.Mod a b) = expr a ++ expr b
  children (Node-F.Eq a b) = expr a ++ expr b
  children (Node-F.Ne a b) = expr a ++ expr b
  children (Node-F.Lt a b) = expr a ++ expr b
  children (Node-F.Le a b) = expr a ++ expr b
  children (Node-F.Gt a b) = expr a ++ expr b
  children (Node-F.Ge a b) = expr a ++ expr b
  children (Node-F.Where a b) = expr a ++ expr b
  children (Node-F.Neg e) = expr e
  children (Node-F.Not e) = expr e
  children (Node-F.Hd e) = expr e
  children (Node-F.Tl e) = expr e
  children (Node-F.Empty e) = expr e
  children (Node-F.IntToString e) = expr e
  children (Node-F.Print e) = expr e
  children (Node-F.Record parts) = flat_map part parts
  children (Node-F.Extend parts e) = flat_map part parts ++ expr e
  children (Node-F.List es) = flat_map expr es
  children (Node-F.Project e label) = expr e
  children (Node-F.Tag t e) = expr e
  children (Node-F.Switch e cases rest) = expr e ++ flat_map case cases ++ in_some last rest
  children (Node-F.ForList x e body) = expr e ++ expr body
  children (Node-F.ForTable x rows body) = expr rows ++ expr body
  children (Node-F.Query keys e) = expr e
  children (Node-F.Insert t e) = expr e
  children (Node-F.Update c) = change c
  children (Node-F.Delete c) = change c
