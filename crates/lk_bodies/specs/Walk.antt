-- The parts of a query (Cooper, The script-writer's dream, DBPL 2009): those of its expression in text order, each behind its own
-- parts. A name stands for the part that it is bound to, and the body of a function stands in the place of a call, so neither
-- makes a part. What never stands in a query counts as 0.
use Rattle.std.specs.Prelude.{ℕ, zero, suc, pos, Bool, true, false, List, [], ◌∷◌, ◌++◌, Option, Some, None, drop, length, map, slice_get, unwrap_or, if◌then◌else◌}
use Rattle.lk_ast.specs.declared.declaration.FunDef.{FunDef}
use Rattle.lk_ast.specs.declared.expression.Expr.{Expr, Expr-F, fold-Expr}
use Rattle.lk_ast.specs.declared.expression.Node.{Node, fold-Node}
use Rattle.lk_ast.specs.declared.expression.Node.TheOpen.{Node-F, PartExpr-F}
use Rattle.lk_ast.specs.declared.expression.PartExpr.{PartExpr, fold-PartExpr}
use Rattle.lk_ast.specs.declared.place.Word.{Word}
use Rattle.lk_ast.specs.declared.table.Base.TheVariants as base
use Rattle.lk_bodies.specs.Shapes.{columns_of, element_columns, labels}
use Rattle.lk_ground.specs.Language.{function_of}
use Rattle.lk_ground.specs.declared.program.GroundFun.{GroundFun}
use Rattle.lk_ground_types.specs.Shapes.{is_base, is_list}
use Rattle.lk_query.specs.declared.part.Labelled.{Labelled}
use Rattle.lk_query.specs.declared.part.Part.{Part}
use Rattle.lk_query.specs.declared.part.Part.TheVariants as part
use Rattle.lk_sql.specs.declared.tree.SqlOp.{SqlOp}
use Rattle.lk_sql.specs.declared.tree.SqlOp.TheVariants as op
use Rattle.lk_types.specs.Rows.{Label}
use Rattle.lk_types.specs.declared.ground.Ground.{Ground}
use Rattle.lk_typing.specs.Names.{Named, named}

-- the parts so far, the types of the nodes still to come in the body that is walked, in text order, and the helpers that the uses
-- still to come in it call
pub record State : Type 0 where
  pub parts : List Part
  pub types : List Ground
  pub calls : List ℕ

-- the number of a part, and what there is behind it
pub record Made : Type 0 where
  pub part : ℕ
  pub state : State

pub record Several : Type 0 where
  pub numbers : List ℕ
  pub state : State

-- what is made of an expression, by the parts that names are bound to
abbrev pub Walk : Type 0
Walk = Named ℕ → State → Made

-- ---- steps

abbrev pub made : ℕ → State → Made
made n s = record { part = n; state = s }

-- the part behind the others
abbrev pub add : Part → State → Made
add x s = made (length s.parts) (record { parts = s.parts ++ x ∷ []; types = s.types; calls = s.calls })

abbrev pub zero_part : Part
zero_part = part.Lit (base.Int (pos 0))

abbrev pub never : Walk
never names s = add zero_part s

-- behind the node whose type is the next one
abbrev pub behind_type : State → State
behind_type s = record { parts = s.parts; types = drop 1 s.types; calls = s.calls }

abbrev pub behind : Made → (ℕ → State → Made) → Made
behind m next = next m.part m.state

abbrev pub one : (ℕ → Part) → Walk → Walk
one of a names s = behind (a names s) (λ x. add (of x))

abbrev pub two : (ℕ → ℕ → Part) → Walk → Walk → Walk
two of a b names s = behind (a names s) (λ x s. behind (b names s) (λ y. add (of x y)))

abbrev pub three : (ℕ → ℕ → ℕ → Part) → Walk → Walk → Walk → Walk
three of a b c names s = behind (a names s) (λ x s. behind (b names s) (λ y s. behind (c names s) (λ z. add (of x y z))))

abbrev pub all_from : List ℕ → List Walk → Named ℕ → State → Several
all_from numbers [] names s = record { numbers = numbers; state = s }
all_from numbers (walk ∷ walks) names s = let m = walk names s in all_from (numbers ++ m.part ∷ []) walks names m.state

abbrev pub all : List Walk → Named ℕ → State → Several
all walks names s = all_from [] walks names s

abbrev pub with_all : Several → (List ℕ → State → Made) → Made
with_all m next = next m.numbers m.state

-- ---- parts by types

abbrev pub first_labels : List Ground → List Label
first_labels [] = []
first_labels (t ∷ ts) = labels (columns_of t)

-- a choice of things of the first type
abbrev pub choice : List Ground → ℕ → ℕ → ℕ → Part
choice [] c a b = part.Case c a b
choice (t ∷ ts) c a b = if is_base t then part.Case c a b else (if is_list t then part.If c a b else part.IfRow (labels (columns_of t)) c a b)

-- whether two things of the first type are equal, and whether they aren't
abbrev pub equality : List Ground → ℕ → ℕ → Part
equality [] a b = part.Two op.Eq a b
equality (t ∷ ts) a b = if is_base t then part.Two op.Eq a b else part.EqRows (labels (columns_of t)) a b

abbrev pub inequality : List Ground → ℕ → ℕ → State → Made
inequality [] a b s = add (part.Two op.Ne a b) s
inequality (t ∷ ts) a b s = if is_base t then add (part.Two op.Ne a b) s else behind (add (part.EqRows (labels (columns_of t)) a b) s) (λ x. add (part.One op.Not x))

abbrev pub emptiness : List Ground → ℕ → Part
emptiness [] list = part.Empty [] list
emptiness (t ∷ ts) list = part.Empty (element_columns t) list

abbrev pub table : List Ground → List ℕ → Part
table [] name = part.Table name []
table (t ∷ ts) name = part.Table name (labels (element_columns t))

-- ---- names

abbrev pub local : Option ℕ → State → Made
local (Some n) s = made n s
local None s = add zero_part s

abbrev pub variable : Word → Walk → Walk → Walk
variable x e rest names s = behind (e names s) (λ n. rest ((x.text, n) ∷ names))

abbrev pub with_some : {A : Type 0} → Option Word → A → Named A → Named A
with_some None a names = names
with_some (Some x) a names = (x.text, a) ∷ names

-- a loop, the row of which is a part of its own
abbrev pub loop : Word → Walk → Walk → Walk
loop x e body names s =
    behind (e names s) (λ list s. behind (add part.Bound s) (λ row s. behind (body ((x.text, row) ∷ names) s) (λ inner. add (part.ForList list row inner))))

-- ---- records

abbrev pub labelled : List Label → List ℕ → List Labelled
labelled [] numbers = []
labelled (l ∷ ls) [] = []
labelled (l ∷ ls) (n ∷ numbers) = record { label = l; part = n } ∷ labelled ls numbers

-- the record of the first type with these fields, and the rest from that part
abbrev pub extended : List Ground → List Label → List ℕ → ℕ → Part
extended own labels numbers rest = part.Extend (first_labels own) (labelled labels numbers) rest

abbrev pub extension : List Ground → List Label → List Walk → Walk → Walk
extension own labels items e names s = with_all (all items names s) (λ numbers s. behind (e names s) (λ rest. add (extended own labels numbers rest)))

-- A record extends an empty one.
abbrev pub fields : List Ground → List Label → List Walk → Walk
fields own labels items names s = extension own labels items (λ names. add (part.Record [])) names s

abbrev pub labels_in : List (Label × Walk) → List Label
labels_in items = map (λ item. item.0) items

abbrev pub walks_in : List (Label × Walk) → List Walk
walks_in items = map (λ item. item.1) items

-- ---- expressions

-- what the body of a helper makes of arguments, and the parts so far
abbrev pub Calls : Type 0
Calls = ℕ → List ℕ → List Part → Made

-- the parts of the body; what is still to come is that of the caller
abbrev pub back : State → Made → Made
back s m = made m.part (record { parts = m.state.parts; types = s.types; calls = s.calls })

abbrev pub call : Calls → List ℕ → List Walk → Walk
call calls [] args names s = never names s
call calls (h ∷ later) args names s =
    with_all (all args names (record { parts = s.parts; types = s.types; calls = later })) (λ numbers s. back s (calls h numbers s.parts))

module _ (calls : Calls) where
  -- one level of an expression with the types of its nodes, its own first
  abbrev pub node_level : Node-F (List Ground → Walk) (Unit {0}) (Unit {0}) Walk (Unit {0}) (Unit {0}) (Label × Walk) → List Ground → Walk
  node_level (Node-F.Int n) own names s = add (part.Lit (base.Int n)) s
  node_level (Node-F.Text text) own names s = add (part.Lit (base.Text text)) s
  node_level (Node-F.Bool b) own names s = add (part.Lit (base.Bool b)) s
  node_level (Node-F.Name x) own names s = local (named x names) s
  node_level (Node-F.Call g args) own names s = call calls s.calls args names s
  node_level (Node-F.Var x e rest) own names s = variable x e rest names s
  node_level (Node-F.Seq e rest) own names s = behind (e names s) (λ n. rest names)
  node_level (Node-F.If c a b) own names s = three (choice own) c a b names s
  node_level (Node-F.And a b) own names s = two (part.Two op.And) a b names s
  node_level (Node-F.Or a b) own names s = two (part.Two op.Or) a b names s
  node_level (Node-F.Concat a b) own names s = two (part.Two op.Concat) a b names s
  node_level (Node-F.Append a b) own names s = two part.Append a b names s
  node_level (Node-F.Add a b) own names s = two (part.Two op.Add) a b names s
  node_level (Node-F.Sub a b) own names s = two (part.Two op.Sub) a b names s
  node_level (Node-F.Mul a b) own names s = two (part.Two op.Mul) a b names s
  node_level (Node-F.Eq a b) own names s = two (equality s.types) a b names s
  node_level (Node-F.Ne a b) own names s = behind (a names s) (λ x m. behind (b names m) (inequality s.types x))
  node_level (Node-F.Lt a b) own names s = two (part.Two op.Lt) a b names s
  node_level (Node-F.Le a b) own names s = two (part.Two op.Le) a b names s
  node_level (Node-F.Gt a b) own names s = two (part.Two op.Gt) a b names s
  node_level (Node-F.Ge a b) own names s = two (part.Two op.Ge) a b names s
  node_level (Node-F.Neg e) own names s = one (part.One op.Neg) e names s
  node_level (Node-F.Not e) own names s = one (part.One op.Not) e names s
  node_level (Node-F.Empty e) own names s = one (emptiness s.types) e names s
  node_level (Node-F.Record items) own names s = fields own (labels_in items) (walks_in items) names s
  node_level (Node-F.Extend items e) own names s = extension own (labels_in items) (walks_in items) e names s
  node_level (Node-F.List items) own names s = with_all (all items names s) (λ numbers. add (part.Items numbers))
  node_level (Node-F.Project e l) own names s = one (λ x. part.Project x l.text) e names s
  node_level (Node-F.ForList x e body) own names s = loop x e body names s
  node_level (Node-F.ForTable x rows body) own names s = loop x rows body names s
  node_level (Node-F.Table t) own names s = add (table own t.text) s
  node_level (Node-F.Where c e) own names s = two part.Where c e names s
  node_level (Node-F.Query keys e) own names s = e names s
  node_level other own names s = never names s

  abbrev pub expr_level : Expr-F (List Ground → Walk) (Unit {0}) (Unit {0}) Walk (Unit {0}) (Unit {0}) (Label × Walk) → Walk
  expr_level e names s = e.node s.types names (behind_type s)

  abbrev pub part_level : PartExpr-F (List Ground → Walk) (Unit {0}) (Unit {0}) Walk (Unit {0}) (Unit {0}) (Label × Walk) → Label × Walk
  part_level part = (part.label.text, part.expr)

  unfoldable pub walk : Expr → Walk
  walk = fold-Expr (List Ground → Walk) (Unit {0}) (Unit {0}) Walk (Unit {0}) (Unit {0}) (Label × Walk) node_level (λ case. tt) (λ change. tt) expr_level (λ lambda. tt) (λ last. tt) part_level

  unfoldable pub walk_node : Node → List Ground → Walk
  walk_node = fold-Node (List Ground → Walk) (Unit {0}) (Unit {0}) Walk (Unit {0}) (Unit {0}) (Label × Walk) node_level (λ case. tt) (λ change. tt) expr_level (λ lambda. tt) (λ last. tt) part_level

  unfoldable pub walk_part : PartExpr → Label × Walk
  walk_part = fold-PartExpr (List Ground → Walk) (Unit {0}) (Unit {0}) Walk (Unit {0}) (Unit {0}) (Label × Walk) node_level (λ case. tt) (λ change. tt) expr_level (λ lambda. tt) (λ last. tt) part_level

-- ---- calls

-- the parameters stand for the arguments, as many as there are of both
abbrev pub bound : Named ℕ → List Word → List ℕ → Named ℕ
bound names [] numbers = names
bound names (x ∷ params) [] = names
bound names (x ∷ params) (n ∷ numbers) = bound ((x.text, n) ∷ names) params numbers

abbrev pub entered : Calls → GroundFun → List ℕ → List Part → Made
entered calls f numbers parts = walk calls (function_of f).body (bound [] (function_of f).params numbers) (record { parts = parts; types = f.types; calls = f.calls })

abbrev pub entered_some : Calls → Option GroundFun → List ℕ → List Part → Made
entered_some calls None numbers parts = add zero_part (record { parts = parts; types = []; calls = [] })
entered_some calls (Some f) numbers parts = entered calls f numbers parts

-- What calls of helpers make, where so many may stand one in the other.
unfoldable pub called : List GroundFun → ℕ → Calls
called helpers zero h numbers parts = add zero_part (record { parts = parts; types = []; calls = [] })
called helpers (suc n) h numbers parts = entered_some (called helpers n) (slice_get helpers h) numbers parts
