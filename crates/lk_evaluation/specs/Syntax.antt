-- The parts of an expression.
use Rattle.std.specs.Prelude.{Bool, true, false, List, [], ◌∷◌, ◌++◌}
use Rattle.lk_ast.specs.Children.{exprs_of}
use Rattle.lk_ast.specs.Layers.{Layer}
use Rattle.lk_ast.specs.declared.expression.Expr.{Expr}
use Rattle.lk_ast.specs.declared.expression.Node.TheOpen.{Node-F}

-- The parts that are evaluated first, in order; the others, as the branches of an `if`, are evaluated in the stead of
-- their node or not at all. What stands in a query, an update or a deletion isn't evaluated here.
abbrev pub parts_of : Layer → List Expr
parts_of (Node-F.Call function args) = args
parts_of (Node-F.Apply f args) = f ∷ args
parts_of (Node-F.Var x e rest) = e ∷ []
parts_of (Node-F.Seq e rest) = e ∷ []
parts_of (Node-F.If c d e) = c ∷ []
parts_of (Node-F.And a b) = a ∷ []
parts_of (Node-F.Or a b) = a ∷ []
parts_of (Node-F.Concat a b) = a ∷ b ∷ []
parts_of (Node-F.Append a b) = a ∷ b ∷ []
parts_of (Node-F.Cons a b) = a ∷ b ∷ []
parts_of (Node-F.Add a b) = a ∷ b ∷ []
parts_of (Node-F.Sub a b) = a ∷ b ∷ []
parts_of (Node-F.Mul a b) = a ∷ b ∷ []
parts_of (Node-F.Div a b) = a ∷ b ∷ []
parts_of (Node-F.Mod a b) = a ∷ b ∷ []
parts_of (Node-F.Eq a b) = a ∷ b ∷ []
parts_of (Node-F.Ne a b) = a ∷ b ∷ []
parts_of (Node-F.Lt a b) = a ∷ b ∷ []
parts_of (Node-F.Le a b) = a ∷ b ∷ []
parts_of (Node-F.Gt a b) = a ∷ b ∷ []
parts_of (Node-F.Ge a b) = a ∷ b ∷ []
parts_of (Node-F.Neg e) = e ∷ []
parts_of (Node-F.Not e) = e ∷ []
parts_of (Node-F.Hd e) = e ∷ []
parts_of (Node-F.Tl e) = e ∷ []
parts_of (Node-F.Empty e) = e ∷ []
parts_of (Node-F.IntToString e) = e ∷ []
parts_of (Node-F.Print e) = e ∷ []
parts_of (Node-F.Record parts) = exprs_of parts
parts_of (Node-F.Extend parts e) = exprs_of parts ++ e ∷ []
parts_of (Node-F.List es) = es
parts_of (Node-F.Project e l) = e ∷ []
parts_of (Node-F.Tag t e) = e ∷ []
parts_of (Node-F.Switch e cases last) = e ∷ []
parts_of (Node-F.ForList x e body) = e ∷ []
parts_of (Node-F.ForTable x table body) = table ∷ []
parts_of (Node-F.Where c e) = c ∷ []
parts_of (Node-F.Insert t e) = e ∷ []
parts_of other = []

-- whether the value is there without a step of its own
abbrev pub is_plain : Layer → Bool
is_plain (Node-F.Int n) = true
is_plain (Node-F.Text bytes) = true
is_plain (Node-F.Bool truth) = true
is_plain (Node-F.Name x) = true
is_plain (Node-F.Function g) = true
is_plain (Node-F.Lambda lambda) = true
is_plain other = false
