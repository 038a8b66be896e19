-- What stands in a query: the types of its parts, and the functions that it calls.
use Rattle.std.proofs.Common.{◌≡◌, refl, ap, ℕ, ◌<◌, Bool, true, List, [], ◌∷◌, ◌++◌, map, flat_map, Some, IsSome}
use Rattle.lk_ast.specs.Layers.{Layer}
use Rattle.lk_ast.specs.declared.declaration.Program.{Program}
use Rattle.lk_ast.specs.declared.declaration.TableDecl.{TableDecl}
use Rattle.lk_ast.specs.declared.expression.Expr.{Expr}
use Rattle.lk_ast.specs.declared.expression.Node.TheOpen.{Node-F}
use Rattle.lk_ast.specs.declared.expression.PartExpr.{PartExpr}
use Rattle.lk_bag.proofs.Given.{operands}
use Rattle.lk_ground_types.specs.Shapes.{is_query_type}
use Rattle.lk_sound.specs.Instances.{IsListed, number_of}
use Rattle.lk_sound.specs.Nodes.{TypedNode, Use, may_compare, nodes_of, each_nodes}
use Rattle.lk_types.proofs.Members.{each_front, each_back}
use Rattle.lk_types.specs.Each.{Each}
use Rattle.lk_types.specs.Rows.{EffectSet}
use Rattle.lk_types.specs.declared.ground.Ground.{Ground}
use Rattle.lk_typing.specs.Heads.{head, parts}
use Rattle.lk_typing.specs.Names.{Entry, Named}
use Rattle.lk_typing.specs.Typing.{HasType, HaveTypes, label_of, expr_of, plain, lambda, var, switch, switch_open, for_list, for_table, query, update, delete, none, more}

-- ---- the parts of operators

pub each_itself : (es : List Expr) → flat_map (λ (e : Expr). e ∷ []) es ≡ es
each_itself [] = refl
each_itself (e ∷ es) = ap (λ rest. e ∷ rest) (each_itself es)

each_field : (fields : List PartExpr) → flat_map (λ (part : PartExpr). part.expr ∷ []) fields ≡ map expr_of fields
each_field [] = refl
each_field (part ∷ fields) = ap (λ rest. part.expr ∷ rest) (each_field fields)

-- those of its operation are those of its rule
pub operands_are : (l : Layer) → IsSome (head label_of expr_of l) → operands l ≡ parts label_of expr_of l
operands_are (Node-F.Call g args) some = each_itself args
operands_are (Node-F.Apply f args) some = ap (λ rest. f ∷ rest) (each_itself args)
operands_are (Node-F.List es) some = each_itself es
operands_are (Node-F.Record fields) some = each_field fields
operands_are (Node-F.Extend fields e) some = ap (λ rest. rest ++ e ∷ []) (each_field fields)
operands_are (Node-F.Lambda l) some = absurd cc
operands_are (Node-F.Var x e rest) some = absurd cc
operands_are (Node-F.Switch e cases last) some = absurd cc
operands_are (Node-F.ForList x e body) some = absurd cc
operands_are (Node-F.ForTable x rows body) some = absurd cc
operands_are (Node-F.Query keys e) some = absurd cc
operands_are (Node-F.Update change) some = absurd cc
operands_are (Node-F.Delete change) some = absurd cc
operands_are other some = refl

-- ---- nodes in queries

module _ (p : Program) (helpers : List Use) (n : ℕ) where
  -- a helper among the first so many functions of the program
  abbrev pub IsEarly : Use → Type 0
  IsEarly u = IsListed helpers u × (number_of p u.name < n)

  -- it may stand in a query that calls these helpers
  pub record IsQueryNode (node : TypedNode) : Type 0 where
    pub type : is_query_type node.part.type ≡ true
    pub compares : may_compare node.part.compares ≡ true
    pub calls : (u : Use) → node.part.use_of ≡ Some u → IsEarly u

  abbrev pub AreQueryNodes : List TypedNode → Type 0
  AreQueryNodes nodes = Each IsQueryNode nodes

  module _ {functions : Named (Entry Ground)} {tables : List TableDecl} where
    -- the type of what may stand in a query
    pub node_type : {names : Named Ground} {effects : EffectSet} {e : Expr} {t : Ground} {inside : List Ground} (b : Bool) (d : HasType functions tables names effects e t inside) → AreQueryNodes (nodes_of b d) → is_query_type t ≡ true
    unfolding nodes_of
    node_type b (plain h ts is have by) all = all.0.type
    node_type b (lambda l params own a is named moves body local) all = all.0.type
    node_type b (var x d rest a first last is one then) all = all.0.type
    node_type b (switch d cases row tags ts first bodies is one have same made local) all = all.0.type
    node_type b (switch_open d cases last rest row tags ts first bodies inside is one have same then made local) all = all.0.type
    node_type b (for_list x d body a c first inside is one then) all = all.0.type
    node_type b (for_table x rows body a c first inside is one then) all = all.0.type
    node_type b (query keys body a inside is one sorted scans own) all = all.0.type
    node_type b (update change is changes writes) all = all.0.type
    node_type b (delete change is changes writes) all = all.0.type

    pub part_types : {names : Named Ground} {effects : EffectSet} {es : List Expr} {ts inside : List Ground} (b : Bool) (d : HaveTypes functions tables names effects es ts inside) → AreQueryNodes (each_nodes b d) → Each (λ t. is_query_type t ≡ true) ts
    unfolding nodes_of
    part_types b none all = tt
    part_types b (more inside rest first others) all = (node_type b first (each_front IsQueryNode (nodes_of b first) (each_nodes b others) all), part_types b others (each_back IsQueryNode (nodes_of b first) (each_nodes b others) all))
