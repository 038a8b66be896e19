-- The local names that an expression uses from outside, in text order, each use with the type of its node.
use Rattle.std.specs.Prelude.{ℕ, Bool, true, false, List, [], ◌∷◌, ◌++◌, Option, Some, None, drop, map, bytes_eq, if◌then◌else◌}
use Rattle.std.specs.List.{list_any}
use Rattle.lk_ast.specs.declared.expression.ChangeExpr.{ChangeExpr, out-ChangeExpr}
use Rattle.lk_ast.specs.declared.expression.Expr.{Expr, Expr-F, fold-Expr}
use Rattle.lk_ast.specs.declared.expression.Node.{Node, fold-Node}
use Rattle.lk_ast.specs.declared.expression.Node.TheOpen.{Node-F, PartExpr-F}
use Rattle.lk_ast.specs.declared.expression.PartExpr.{PartExpr, fold-PartExpr}
use Rattle.lk_ast.specs.declared.place.Word.{Word}
use Rattle.lk_types.specs.Rows.{Label}
use Rattle.lk_types.specs.declared.ground.Ground.{Ground}
use Rattle.lk_typing.specs.Names.{Named}

-- what was found, and the types of the nodes still to come
pub record Used : Type 0 where
  pub found : Named Ground
  pub types : List Ground

-- by the names that are bound inside, and what was found before
abbrev pub Uses : Type 0
Uses = List Label → Used → Used

abbrev pub unchanged : Uses
unchanged bound u = u

abbrev pub both : Uses → Uses → Uses
both a b bound u = b bound (a bound u)

abbrev pub all : List Uses → Uses
all [] bound u = u
all (a ∷ rest) bound u = all rest bound (a bound u)

abbrev pub under : Label → Uses → Uses
under x a bound u = a (x ∷ bound) u

abbrev pub is_bound : List Label → Label → Bool
is_bound bound x = list_any (λ other. bytes_eq other x) bound

-- a name of the first of these types, unless it is bound inside
abbrev pub local : Label → List Ground → Uses
local x [] bound u = u
local x (t ∷ ts) bound u = if is_bound bound x then u else record { found = u.found ++ (x, t) ∷ []; types = u.types }

-- one level of an expression with the types of its nodes, its own first
abbrev pub node_level : Node-F (List Ground → Uses) (Unit {0}) (Unit {0}) Uses (Unit {0}) (Unit {0}) Uses → List Ground → Uses
node_level (Node-F.Name x) own = local x own
node_level (Node-F.Call g args) own = all args
node_level (Node-F.Var x e rest) own = both e (under x.text rest)
node_level (Node-F.Seq e rest) own = both e rest
node_level (Node-F.If c a b) own = both c (both a b)
node_level (Node-F.And a b) own = both a b
node_level (Node-F.Or a b) own = both a b
node_level (Node-F.Concat a b) own = both a b
node_level (Node-F.Append a b) own = both a b
node_level (Node-F.Add a b) own = both a b
node_level (Node-F.Sub a b) own = both a b
node_level (Node-F.Mul a b) own = both a b
node_level (Node-F.Eq a b) own = both a b
node_level (Node-F.Ne a b) own = both a b
node_level (Node-F.Lt a b) own = both a b
node_level (Node-F.Le a b) own = both a b
node_level (Node-F.Gt a b) own = both a b
node_level (Node-F.Ge a b) own = both a b
node_level (Node-F.Where a b) own = both a b
node_level (Node-F.Neg e) own = e
node_level (Node-F.Not e) own = e
node_level (Node-F.Empty e) own = e
node_level (Node-F.Project e l) own = e
node_level (Node-F.Query keys e) own = e
node_level (Node-F.Record items) own = all items
node_level (Node-F.Extend items e) own = both (all items) e
node_level (Node-F.List items) own = all items
node_level (Node-F.ForList x e body) own = both e (under x.text body)
node_level (Node-F.ForTable x rows body) own = both rows (under x.text body)
node_level other own = unchanged

abbrev pub expr_level : Expr-F (List Ground → Uses) (Unit {0}) (Unit {0}) Uses (Unit {0}) (Unit {0}) Uses → Uses
expr_level e bound u = e.node u.types bound (record { found = u.found; types = drop 1 u.types })

abbrev pub part_level : PartExpr-F (List Ground → Uses) (Unit {0}) (Unit {0}) Uses (Unit {0}) (Unit {0}) Uses → Uses
part_level part = part.expr

unfoldable pub uses : Expr → Uses
uses = fold-Expr (List Ground → Uses) (Unit {0}) (Unit {0}) Uses (Unit {0}) (Unit {0}) Uses node_level (λ case. tt) (λ change. tt) expr_level (λ lambda. tt) (λ last. tt) part_level

unfoldable pub uses_node : Node → List Ground → Uses
uses_node = fold-Node (List Ground → Uses) (Unit {0}) (Unit {0}) Uses (Unit {0}) (Unit {0}) Uses node_level (λ case. tt) (λ change. tt) expr_level (λ lambda. tt) (λ last. tt) part_level

unfoldable pub uses_part : PartExpr → Uses
uses_part = fold-PartExpr (List Ground → Uses) (Unit {0}) (Unit {0}) Uses (Unit {0}) (Unit {0}) Uses node_level (λ case. tt) (λ change. tt) expr_level (λ lambda. tt) (λ last. tt) part_level

-- those of a query's body, and those of a change, which binds its row's name
abbrev pub query_uses : Expr → List Ground → Named Ground
query_uses body types = (uses body [] (record { found = []; types = types })).found

abbrev pub change_uses : ChangeExpr → List Ground → Named Ground
change_uses change types =
    let parts = uses (out-ChangeExpr change).cond ∷ map (λ (set : PartExpr). uses set.expr) (out-ChangeExpr change).sets in
    (under (out-ChangeExpr change).name.text (all parts) [] (record { found = []; types = types })).found
