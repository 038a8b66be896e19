-- The nodes of a typed expression in text order, each before those in it: its place, its ground type, and the use of a
-- function of the program that it may be, at its ground type.
use Rattle.std.specs.Prelude.{Bool, true, List, [], ◌∷◌, ◌++◌, Option, Some, None, map, not}
use Rattle.lk_ast.specs.Layers.{layer}
use Rattle.lk_ast.specs.declared.declaration.TableDecl.{TableDecl}
use Rattle.lk_ast.specs.declared.expression.Case.{Case}
use Rattle.lk_ast.specs.declared.expression.ChangeExpr.{ChangeExpr}
use Rattle.lk_ast.specs.declared.expression.Expr.{Expr}
use Rattle.lk_ast.specs.declared.expression.Node.TheOpen.{Node-F}
use Rattle.lk_ast.specs.declared.place.Span.{Span}
use Rattle.lk_ground_types.specs.Shapes.{is_base, is_list}
use Rattle.lk_index.specs.Free.{free, free_change}
use Rattle.lk_scope.specs.Names.{no_names}
use Rattle.lk_types.specs.Rows.{Label, EffectSet}
use Rattle.lk_types.specs.declared.ground.Ground.{Ground}
use Rattle.lk_typing.specs.Heads.{Head}
use Rattle.lk_typing.specs.Names.{Named, named, Entry}
use Rattle.lk_typing.specs.Rules.{Rule}
use Rattle.lk_typing.specs.Rules as rule
use Rattle.lk_typing.specs.Types.{function_of}
use Rattle.lk_typing.specs.Typing.{HasType, HaveTypes, HaveCases, IsChange, plain, lambda, var, switch, switch_open, for_list, for_table, query, update, delete, none, more, no_cases, case_of, changed}

-- a function of the program at a ground type
pub record Use : Type 0 where
  pub name : Label
  pub type : Ground

-- a comparison of two things of one type: `==` and `<>` are equalities, the others orders
pub data Comparison : Type 0 where
  Equality : Ground → Comparison
  Order : Ground → Comparison

-- what a query may compare: no lists, and in order only bases
abbrev pub may_compare : Option Comparison → Bool
may_compare None = true
may_compare (Some (Equality t)) = not (is_list t)
may_compare (Some (Order t)) = is_base t

pub record Part : Type 0 where
  pub span : Span
  pub type : Ground
  -- the function that it uses, if it is a use of one
  pub use_of : Option Use
  pub compares : Option Comparison
  -- whether it stands inside a query, an update or a deletion
  pub inside : Bool

-- What a query, an update or a deletion is made of: what stands in it, for a query with itself, and the types of the local
-- names that it captures, its free ones, once for each time that one stands there.
pub record Block : Type 0 where
  pub parts : List Part
  pub captured : List Ground

pub record TypedNode : Type 0 where
  pub part : Part
  -- what it is made of, if it is a query, an update or a deletion
  pub block : Option Block

abbrev pub parts_of : List TypedNode → List Part
parts_of nodes = map (λ node. node.part) nodes

-- a node that uses no function and compares nothing
abbrev pub other_part : Bool → Expr → Ground → Part
other_part inside e t = record { span = e.span; type = t; use_of = None; compares = None; inside = inside }

abbrev pub other_node : Bool → Expr → Ground → TypedNode
other_node inside e t = record { part = other_part inside e t; block = None }

abbrev pub block_node : Part → List Part → List Ground → TypedNode
block_node part parts captured = record { part = part; block = Some (record { parts = parts; captured = captured }) }

-- how things of this type are compared, if the node is a comparison
abbrev pub comparison : {N C H E L S P : Type 0} → Node-F N C H E L S P → Ground → Option Comparison
comparison (Node-F.Eq a b) t = Some (Equality t)
comparison (Node-F.Ne a b) t = Some (Equality t)
comparison (Node-F.Lt a b) t = Some (Order t)
comparison (Node-F.Le a b) t = Some (Order t)
comparison (Node-F.Gt a b) t = Some (Order t)
comparison (Node-F.Ge a b) t = Some (Order t)
comparison other t = None

-- the types of these names, of those that are known
abbrev pub type_before : Option Ground → List Ground → List Ground
type_before None ts = ts
type_before (Some t) ts = t ∷ ts

abbrev pub known_in : Named Ground → List Label → List Ground
known_in names [] = []
known_in names (x ∷ xs) = type_before (named x names) (known_in names xs)

module _ {functions : Named (Entry Ground)} {tables : List TableDecl} where
  -- what an operator uses and compares, by its rule
  abbrev pub used_by : {names : Named Ground} {effects : EffectSet} {h : Head} {ts : List Ground} {t : Ground} → Rule functions tables names effects h ts t → Option Use
  used_by {t = t} (rule.function {g} may) = Some (record { name = g; type = t })
  used_by {effects = effects} {ts = ts} {t = t} (rule.call {g} may) = Some (record { name = g; type = function_of ts effects t })
  used_by other = None

  abbrev pub compared_by : {names : Named Ground} {effects : EffectSet} {h : Head} {ts : List Ground} {t : Ground} → Expr → Rule functions tables names effects h ts t → Option Comparison
  compared_by e (rule.comparison {t}) = comparison (layer e) t
  compared_by e other = None

  unfoldable mutual
    -- the nodes in an expression, itself the first; the flag says whether it stands inside a query, an update or a deletion
    pub nodes_of : {names : Named Ground} {effects : EffectSet} {e : Expr} {t : Ground} {inside : List Ground} → Bool → HasType functions tables names effects e t inside → List TypedNode
    nodes_of {e = e} {t = t} in_block (plain h ts is have by) = record { part = record { span = e.span; type = t; use_of = used_by by; compares = compared_by e by; inside = in_block }; block = None } ∷ each_nodes in_block have
    nodes_of {e = e} {t = t} in_block (lambda l params own b is named moves body local) = other_node in_block e t ∷ nodes_of in_block body
    nodes_of {e = e} {t = t} in_block (var x d rest a first last is one then) = other_node in_block e t ∷ (nodes_of in_block one ++ nodes_of in_block then)
    nodes_of {e = e} {t = t} in_block (switch d cases row tags ts first bodies is one have same made local) = other_node in_block e t ∷ (nodes_of in_block one ++ case_nodes in_block have)
    nodes_of {e = e} {t = t} in_block (switch_open d cases last rest row tags ts first bodies inside is one have same then made local) = other_node in_block e t ∷ (nodes_of in_block one ++ (case_nodes in_block have ++ nodes_of in_block then))
    nodes_of {e = e} {t = t} in_block (for_list x d body a b first inside is one then) = other_node in_block e t ∷ (nodes_of in_block one ++ nodes_of in_block then)
    nodes_of {e = e} {t = t} in_block (for_table x rows body a b first inside is one then) = other_node in_block e t ∷ (nodes_of in_block one ++ nodes_of in_block then)
    nodes_of {names = names} {e = e} {t = t} in_block (query keys body a inside is one sorted scans own) = block_node (other_part in_block e t) (other_part in_block e t ∷ parts_of (nodes_of true one)) (known_in names (free body no_names)) ∷ nodes_of true one
    nodes_of {names = names} {e = e} {t = t} in_block (update change is changes writes) = block_node (other_part in_block e t) (parts_of (change_nodes changes)) (known_in names (free_change change no_names)) ∷ change_nodes changes
    nodes_of {names = names} {e = e} {t = t} in_block (delete change is changes writes) = block_node (other_part in_block e t) (parts_of (change_nodes changes)) (known_in names (free_change change no_names)) ∷ change_nodes changes

    pub each_nodes : {names : Named Ground} {effects : EffectSet} {es : List Expr} {ts inside : List Ground} → Bool → HaveTypes functions tables names effects es ts inside → List TypedNode
    each_nodes in_block none = []
    each_nodes in_block (more inside rest first others) = nodes_of in_block first ++ each_nodes in_block others

    pub case_nodes : {names : Named Ground} {effects : EffectSet} {cases : List Case} {ts : List Ground} {tags : Named Ground} {inside : List Ground} → Bool → HaveCases functions tables names effects cases ts tags inside → List TypedNode
    case_nodes in_block no_cases = []
    case_nodes in_block (case_of a bound inside rest held body others) = nodes_of in_block body ++ case_nodes in_block others

    pub change_nodes : {names : Named Ground} {change : ChangeExpr} {inside : List Ground} → IsChange functions tables names change inside → List TypedNode
    change_nodes (changed row sets ts cond rest has holds values named fields) = nodes_of true holds ++ each_nodes true values
