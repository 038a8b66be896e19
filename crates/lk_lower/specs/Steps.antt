-- The steps of a walk: what each does to the state, and what it says of a node.
use Rattle.std.specs.Prelude.{◌≡◌, ℕ, ◌+◌, List, [], ◌∷◌, ◌++◌, Option, Some, None, drop, length, map, option_map, set, slice_get}
use Rattle.std.specs.List.{flat_map}
use Rattle.lk_ast.specs.Layers.{Layer, layer}
use Rattle.lk_ast.specs.declared.expression.Case.{Case}
use Rattle.lk_ast.specs.declared.expression.ChangeExpr.{ChangeExpr, out-ChangeExpr}
use Rattle.lk_ast.specs.declared.expression.Expr.{Expr}
use Rattle.lk_ast.specs.declared.expression.LambdaExpr.{LambdaExpr}
use Rattle.lk_ast.specs.declared.expression.Node.TheOpen.{Node-F}
use Rattle.lk_ast.specs.declared.expression.LastCase.{LastCase}
use Rattle.lk_ast.specs.declared.place.Loc.{Loc}
use Rattle.lk_ast.specs.declared.place.Span.{Span}
use Rattle.lk_ast.specs.declared.place.Word.{Word}
use Rattle.lk_bodies.specs.Nodes.{total}
use Rattle.lk_bodies.specs.Uses.{change_uses}
use Rattle.lk_ground.specs.Sites.{uses_in}
use Rattle.lk_index.specs.Free.{captured, captured_change}
use Rattle.lk_ir.specs.declared.nodes.Block.{Block}
use Rattle.lk_ir.specs.declared.nodes.Body.{Body}
use Rattle.lk_ir.specs.declared.nodes.CaseForm.{CaseForm}
use Rattle.lk_ir.specs.declared.nodes.Choice.TheVariants as choice
use Rattle.lk_ir.specs.declared.nodes.Form.{Form}
use Rattle.lk_ir.specs.declared.nodes.Forms.{Forms}
use Rattle.lk_ir.specs.declared.nodes.Kept.{Kept}
use Rattle.lk_ir.specs.declared.nodes.Kind.{Kind}
use Rattle.lk_ir.specs.declared.nodes.Kind.TheVariants as kind
use Rattle.lk_ir.specs.declared.nodes.LabelForm.{LabelForm}
use Rattle.lk_ir.specs.declared.nodes.Touched.{Touched}
use Rattle.lk_lower.specs.Growing.{Grows, Has, Lowers, State}
use Rattle.lk_lower.specs.Lowering.{AreCaptured, AreLocals, IsBlockLabel, IsBodyLabel, IsTouched, Pending, Shell, TypeIs, behind_block, behind_label, change_exprs, last_name, nodes_in, tails_of, text_of}
use Rattle.lk_types.specs.declared.ground.Ground.{Ground}
use Rattle.lk_typing.specs.Names.{Named, named}

-- ---- what a step does to the state

-- behind so many types and so many calls
abbrev pub past : ℕ → ℕ → State → State
past types calls s = record s { pending = record s.pending { types = drop types s.pending.types; calls = drop calls s.pending.calls } }

abbrev pub with_types : List Ground → State → State
with_types types s = record s { types = s.types ++ types }

abbrev pub with_label : LabelForm → State → State
with_label form s = record s { labels = s.labels ++ form ∷ []; pending = record s.pending { label = s.pending.label + 1 } }

abbrev pub with_table : Touched → State → State
with_table touched s = record s { tables = s.tables ++ touched ∷ [] }

-- one more node
abbrev pub with_node : Form → State → State
with_node form s = record s { nodes = s.nodes ++ form ∷ []; pending = record s.pending { next = s.pending.next + 1 } }

-- the node with this number has this form
abbrev pub with_form : State → ℕ → Form → State
with_form s n form = record s { nodes = set s.nodes n form }

-- there may be more types, and nothing else is new
abbrev pub Learns : State → State → Type 0
Learns old new = (types : List Ground) × (new ≡ with_types types old)

-- ---- types and names

-- this number stands for that type
abbrev pub IsType : State → ℕ → Ground → Type 0
IsType s n t = slice_get s.types n ≡ Some t

-- this number stands for the next type
pub record IsOwnType (before : Pending) (s : State) (n : ℕ) : Type 0 where
  pub type : Ground
  pub there : IsType s n type
  pub next : slice_get before.types 0 ≡ Some type

abbrev pub IsNamed : List (List ℕ) → ℕ → List ℕ → Type 0
IsNamed locals k name = slice_get locals k ≡ Some name

abbrev pub AreNamed : List (List ℕ) → List ℕ → List (List ℕ) → Type 0
AreNamed locals ks names = map (slice_get locals) ks ≡ map Some names

abbrev pub IsMaybeNamed : List (List ℕ) → Option ℕ → Option (List ℕ) → Type 0
IsMaybeNamed locals k name = option_map (slice_get locals) k ≡ option_map Some name

-- a captured name with the type of its first use
pub record IsKeptAt (x : List ℕ) (uses : Named Ground) (s : State) (k : Kept) : Type 0 where
  pub place : IsNamed s.locals k.name x
  pub type : Ground
  pub first : named x uses ≡ Some type
  pub number : IsType s k.ty type

-- captured names with their types
pub record Captures (names : List (List ℕ)) (uses : Named Ground) (new : State) (kept : List Kept) : Type 0 where
  pub are : (f : Forms) → Has new f → AreCaptured f names uses kept

-- ---- nodes

-- the kind of a node for which nothing need be looked up
abbrev pub plain_kind : Layer → Option Kind
plain_kind (Node-F.Apply e args) = Some kind.Apply
plain_kind (Node-F.Seq e rest) = Some kind.Then
plain_kind (Node-F.If c d e) = Some (kind.Choose choice.If)
plain_kind (Node-F.And a b) = Some (kind.Choose choice.And)
plain_kind (Node-F.Or a b) = Some (kind.Choose choice.Or)
plain_kind (Node-F.Where c e) = Some (kind.Choose choice.Where)
plain_kind (Node-F.Print e) = Some kind.Print
plain_kind other = None

-- the tag of a case, and the name that it binds
abbrev pub case_seen : Case → List ℕ × Option (Option (List ℕ))
case_seen case = (case.tag.text, option_map Some (option_map text_of case.name))

abbrev pub form_seen : List (List ℕ) → CaseForm → List ℕ × Option (Option (List ℕ))
form_seen locals form = (form.tag, option_map (slice_get locals) form.name)

abbrev pub AreCases : List (List ℕ) → List Case → List CaseForm → Type 0
AreCases locals cases forms = map (form_seen locals) forms ≡ map case_seen cases

pub record IsSwitch (locals : List (List ℕ)) (cases : List Case) (last : Option LastCase) (k : Kind) : Type 0 where
  pub forms : List CaseForm
  pub name : Option ℕ
  pub is : k ≡ kind.Switch forms name
  pub cases_are : AreCases locals cases forms
  pub last_is : IsMaybeNamed locals name (option_map last_name last)

-- the label of what reads or changes tables
abbrev pub block_label : ℕ → ℕ → ℕ → LabelForm
block_label owner n ty = record { owner = owner; ty = ty; node = Some n; body = None }

-- what has the next label changes this table
abbrev pub touched_by : List ℕ → State → Touched
touched_by table s = record { label = s.pending.label; table = table }

-- behind a node's place
abbrev pub one_further : Pending → Pending
one_further p = record p { next = p.next + 1 }

-- a node of this form is of this kind, and that is what it takes
pub record IsShaped (owner n ty : ℕ) (l : Layer) (old : State) (kind : Kind) (new : State) : Type 0 where
  pub grows : Grows old new
  pub nodes : new.nodes ≡ old.nodes
  pub next : new.pending.next ≡ old.pending.next
  pub shell : (f : Forms) (at : Span) → Has new f → Shell f owner n ty l at old.pending kind (one_further new.pending)

-- whatever its instance and its number
abbrev pub IsAnywhere : Layer → State → Kind → State → Type 0
IsAnywhere l old kind new = (owner n ty : ℕ) → IsShaped owner n ty l old kind new

-- an update or a deletion
pub record IsChange (owner n ty : ℕ) (b : Block) (rows : ChangeExpr) (old : State) (k : Kind) (new : State) : Type 0 where
  pub kept : List Kept
  pub is : k ≡ kind.Reach b old.pending.label kept
  pub grows : Grows old new
  pub nodes : new.nodes ≡ old.nodes
  pub next : new.pending.next ≡ old.pending.next
  pub pending : one_further new.pending ≡ behind_block (total (map nodes_in (change_exprs rows))) (length (flat_map uses_in (change_exprs rows))) old.pending
  pub captured_are : (f : Forms) → Has new f → AreCaptured f (captured_change rows) (change_uses rows (drop 1 old.pending.types)) kept
  pub labelled : (f : Forms) → Has new f → IsBlockLabel f owner n ty old.pending.label
  pub touched : (f : Forms) → Has new f → IsTouched f old.pending.label (out-ChangeExpr rows).table.text

-- The node of an expression has its place, which will be filled, and it is known what it is without its children.
pub record Opens (owner within : ℕ) (old new : State) (e : Expr) (n ty : ℕ) (kind : Kind) : Type 0 where
  pub grows : Grows old new
  pub hole : Form
  pub nodes : new.nodes ≡ old.nodes ++ hole ∷ []
  pub number : n ≡ length old.nodes
  pub type : (f : Forms) → Has new f → TypeIs f ty old.pending.types
  pub shell : (f : Forms) → Has new f → Shell f owner n ty (layer e) e.span old.pending kind new.pending

-- that form of it
abbrev pub form_of : ℕ → Span → ℕ → Kind → List ℕ → List ℕ → Form
form_of within at ty kind parts tails = record { at = at; within = within; kind = kind; parts = parts; tails = tails; ty = ty }

-- a body with this mark, these captured names and these parameters, which begins with this node
pub record IsBody (locals : List (List ℕ)) (place : Loc) (names : List (List ℕ)) (params : List Word) (root : ℕ) (body : Body) : Type 0 where
  pub place_is : body.place ≡ place
  pub names_are : AreNamed locals body.names names
  pub params_are : AreNamed locals body.params (map text_of params)
  pub root_is : body.root ≡ root

-- The node of a lambda is whole before its body is walked, and so is its label.
pub record OpensLambda (owner within : ℕ) (old new : State) (span : Span) (l : LambdaExpr) (label : ℕ) : Type 0 where
  pub grows : Grows old new
  pub form : Form
  pub names : List ℕ
  pub body : Body
  pub nodes : new.nodes ≡ old.nodes ++ form ∷ []
  pub label_is : label ≡ old.pending.label
  pub at : form.at ≡ span
  pub within_is : form.within ≡ within
  pub kind_is : form.kind ≡ kind.Lambda old.pending.label names
  pub no_part : form.parts ≡ []
  pub no_tail : form.tails ≡ []
  pub root : body.root ≡ length new.nodes
  pub pending : new.pending ≡ behind_label old.pending
  pub type : (f : Forms) → Has new f → TypeIs f form.ty old.pending.types
  pub locals : (f : Forms) → Has new f → AreLocals f names (captured l)
  pub labelled : (f : Forms) → Has new f → IsBodyLabel f owner (Some (length old.nodes)) form.ty old.pending.label l.place (captured l) l.params body

-- Whoever lowers the rest of a block behind its first statement has lowered the block.
abbrev pub LowersBefore : (owner within : ℕ) → State → State → Expr → Type 0
LowersBefore owner within old new e = (rest : Expr) → tails_of (layer e) ≡ rest ∷ [] → (later : State) (k : ℕ) → Lowers owner within new later rest k → Lowers owner within old later e (length old.nodes)
