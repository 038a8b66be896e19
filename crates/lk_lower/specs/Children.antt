-- What stands in a node, in text order, also inside of queries, updates and deletions.
use Rattle.std.specs.Prelude.{ℕ, List, [], ◌∷◌, ◌++◌, length, map}
use Rattle.std.specs.List.{flat_map}
use Rattle.lk_ast.specs.Layers.{Layer}
use Rattle.lk_ast.specs.declared.expression.Expr.{Expr}
use Rattle.lk_ast.specs.declared.expression.Node.TheOpen.{Node-F}
use Rattle.lk_bodies.specs.Nodes.{total}
use Rattle.lk_evaluation.specs.Syntax.{parts_of}
use Rattle.lk_ground.specs.Sites.{uses_in}
use Rattle.lk_lower.specs.Lowering.{change_exprs, nodes_in, tails_of}

abbrev pub inside : Layer → List Expr
inside (Node-F.Lambda l) = l.body ∷ []
inside (Node-F.Query keys e) = e ∷ []
inside (Node-F.Update change) = change_exprs change
inside (Node-F.Delete change) = change_exprs change
inside other = parts_of other ++ tails_of other

-- how many uses of functions a node is by itself
abbrev pub own_uses : Layer → ℕ
own_uses (Node-F.Function h) = 1
own_uses (Node-F.Call h args) = 1
own_uses other = 0

-- how many nodes, and how many uses, stand in several
abbrev pub nodes_of : List Expr → ℕ
nodes_of es = total (map nodes_in es)

abbrev pub uses_of : List Expr → ℕ
uses_of es = length (flat_map uses_in es)
