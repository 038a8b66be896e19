-- Which table of nodes is that of a ground program: its nodes stand in the order of the text, each with the numbers of its
-- positions and tails; each takes its type, what it calls, and its label from what is still to come in its instance. Local names are
-- places in the table's list of them.
use Rattle.std.specs.Prelude.{◌≡◌, ℕ, ◌+◌, List, [], ◌∷◌, ◌++◌, Option, Some, None, map, drop, length, slice_get, option_map}
use Rattle.std.specs.Cmp.Lexicographic.{slice_cmp}
use Rattle.std.specs.List.{flat_map}
use Rattle.std.specs.List.Sorted.{IsStrictlySortedBy}
use Rattle.std.specs.Ordering.{nat_cmp}
use Rattle.lk_ast.specs.Layers.{Layer, layer}
use Rattle.lk_ast.specs.declared.expression.Case.{Case}
use Rattle.lk_ast.specs.declared.expression.ChangeExpr.{ChangeExpr, out-ChangeExpr}
use Rattle.lk_ast.specs.declared.expression.Expr.{Expr}
use Rattle.lk_ast.specs.declared.expression.LambdaExpr.{LambdaExpr}
use Rattle.lk_ast.specs.declared.expression.LastCase.{LastCase}
use Rattle.lk_ast.specs.declared.expression.Node.TheOpen.{Node-F}
use Rattle.lk_ast.specs.declared.expression.PartExpr.{PartExpr}
use Rattle.lk_ast.specs.Children.{exprs_of}
use Rattle.lk_ast.specs.declared.expression.SortKey.{SortKey}
use Rattle.lk_ast.specs.declared.place.Loc.{Loc}
use Rattle.lk_ast.specs.declared.place.Span.{Span}
use Rattle.lk_ast.specs.declared.place.Word.{Word}
use Rattle.lk_bodies.specs.Nodes.{nodes, total}
use Rattle.lk_bodies.specs.Uses.{query_uses, change_uses}
use Rattle.lk_evaluation.specs.Laws.{Both, Maybe}
use Rattle.lk_evaluation.specs.Syntax.{parts_of}
use Rattle.lk_ground.specs.Language.{function_of}
use Rattle.lk_ground.specs.Sites.{uses_in}
use Rattle.lk_ground.specs.declared.program.GroundFun.{GroundFun}
use Rattle.lk_ground.specs.declared.program.GroundProgram.{GroundProgram}
use Rattle.lk_index.specs.Free.{captured, captured_change, captured_query}
use Rattle.lk_types.specs.Each.{Each, OneOf}
use Rattle.lk_types.specs.declared.ground.Ground.{Ground}
use Rattle.lk_typing.specs.Names.{Named, named}
use Rattle.lk_ir.specs.Tables.{form_at, label_at, names_of, whole_at}
use Rattle.lk_ir.specs.declared.nodes.Block.TheVariants as block
use Rattle.lk_ir.specs.declared.nodes.Body.{Body}
use Rattle.lk_ir.specs.declared.nodes.CaseForm.{CaseForm}
use Rattle.lk_ir.specs.declared.nodes.Choice.TheVariants as choice
use Rattle.lk_ir.specs.declared.nodes.Form.{Form}
use Rattle.lk_ir.specs.declared.nodes.Forms.{Forms}
use Rattle.lk_ir.specs.declared.nodes.Kept.{Kept}
use Rattle.lk_ir.specs.declared.nodes.Kind.{Kind}
use Rattle.lk_ir.specs.declared.nodes.Kind.TheVariants as kind
use Rattle.lk_ir.specs.declared.nodes.LabelForm.{LabelForm}
use Rattle.lk_ir.specs.declared.nodes.Op.{Op}
use Rattle.lk_ir.specs.declared.nodes.Op.TheVariants as op

-- ---- children

abbrev pub case_bodies : List Case → List Expr
case_bodies cases = map (λ (case : Case). case.body) cases

abbrev pub last_bodies : Option LastCase → List Expr
last_bodies None = []
last_bodies (Some last) = last.body ∷ []

-- what is evaluated in the stead of the node, or once for each element, or not at all
abbrev pub tails_of : Layer → List Expr
tails_of (Node-F.Var x e rest) = rest ∷ []
tails_of (Node-F.Seq e rest) = rest ∷ []
tails_of (Node-F.If c d e) = d ∷ e ∷ []
tails_of (Node-F.And a b) = b ∷ []
tails_of (Node-F.Or a b) = b ∷ []
tails_of (Node-F.Switch e cases last) = case_bodies cases ++ last_bodies last
tails_of (Node-F.ForList x e body) = body ∷ []
tails_of (Node-F.ForTable x rows body) = body ∷ []
tails_of (Node-F.Where c e) = e ∷ []
tails_of other = []

-- ---- operations

abbrev pub labels_of : List PartExpr → List (List ℕ)
labels_of parts = map (λ (part : PartExpr). part.label.text) parts

-- what depends on the values of the parts alone
abbrev pub op_of : Layer → Option Op
op_of (Node-F.Int n) = Some (op.Int n)
op_of (Node-F.Text bytes) = Some (op.Text bytes)
op_of (Node-F.Bool b) = Some (op.Bool b)
op_of (Node-F.List es) = Some op.List
op_of (Node-F.Concat a b) = Some op.Concat
op_of (Node-F.Append a b) = Some op.Append
op_of (Node-F.Cons a b) = Some op.Cons
op_of (Node-F.Add a b) = Some op.Add
op_of (Node-F.Sub a b) = Some op.Sub
op_of (Node-F.Mul a b) = Some op.Mul
op_of (Node-F.Div a b) = Some op.Div
op_of (Node-F.Mod a b) = Some op.Mod
op_of (Node-F.Eq a b) = Some op.Eq
op_of (Node-F.Ne a b) = Some op.Ne
op_of (Node-F.Lt a b) = Some op.Lt
op_of (Node-F.Le a b) = Some op.Le
op_of (Node-F.Gt a b) = Some op.Gt
op_of (Node-F.Ge a b) = Some op.Ge
op_of (Node-F.Neg e) = Some op.Neg
op_of (Node-F.Not e) = Some op.Not
op_of (Node-F.Hd e) = Some op.Hd
op_of (Node-F.Tl e) = Some op.Tl
op_of (Node-F.Empty e) = Some op.Empty
op_of (Node-F.IntToString e) = Some op.IntToString
op_of (Node-F.Record parts) = Some (op.Record (labels_of parts))
op_of (Node-F.Extend parts e) = Some (op.Extend (labels_of parts))
op_of (Node-F.Project e l) = Some (op.Project l.text)
op_of (Node-F.Tag t e) = Some (op.Tag t.text)
op_of other = None

-- ---- what is still to come in an instance

pub record Pending : Type 0 where
  pub types : List Ground
  pub calls : List ℕ
  pub label : ℕ
  -- the number of the next node
  pub next : ℕ

abbrev pub behind_type : Pending → Pending
behind_type p = record { types = drop 1 p.types; calls = p.calls; label = p.label; next = p.next + 1 }

abbrev pub behind_use : Pending → Pending
behind_use p = record { types = drop 1 p.types; calls = drop 1 p.calls; label = p.label; next = p.next + 1 }

abbrev pub behind_label : Pending → Pending
behind_label p = record { types = drop 1 p.types; calls = p.calls; label = p.label + 1; next = p.next + 1 }

-- behind a query, an update or a deletion in which so many nodes and uses stand
abbrev pub behind_block : ℕ → ℕ → Pending → Pending
behind_block nodes uses p = record { types = drop (1 + nodes) p.types; calls = drop uses p.calls; label = p.label + 1; next = p.next + 1 }

-- ---- forms of nodes

abbrev pub text_of : Word → List ℕ
text_of x = x.text

-- the local name that this number stands for
abbrev pub IsLocal : Forms → ℕ → List ℕ → Type 0
IsLocal f x name = slice_get f.locals x ≡ Some name

-- several, one by one
abbrev pub AreLocals : Forms → List ℕ → List (List ℕ) → Type 0
AreLocals f xs names = Both (IsLocal f) xs names

abbrev pub IsMaybeLocal : Forms → Option ℕ → Option (List ℕ) → Type 0
IsMaybeLocal f x name = Maybe (IsLocal f) x name

pub record IsCase (f : Forms) (case : Case) (form : CaseForm) : Type 0 where
  pub tag : form.tag ≡ case.tag.text
  pub name : IsMaybeLocal f form.name (option_map text_of case.name)

abbrev pub last_name : LastCase → List ℕ
last_name last = last.name.text

-- what stands in a change: the condition and what is set
abbrev pub change_exprs : ChangeExpr → List Expr
change_exprs change = (out-ChangeExpr change).cond ∷ exprs_of (out-ChangeExpr change).sets

-- the type that this number stands for is the next one
abbrev pub TypeIs : Forms → ℕ → List Ground → Type 0
TypeIs f ty types = (t : Ground) × (slice_get f.types ty ≡ Some t) × (slice_get types 0 ≡ Some t)

-- how many nodes stand in an expression
abbrev pub nodes_in : Expr → ℕ
nodes_in e = nodes (λ g. 0) e

-- a captured name has the type of its first use
abbrev pub IsKept : Forms → Named Ground → Kept → Type 0
IsKept f uses k = (x : List ℕ) × (t : Ground) × IsLocal f k.name x × (named x uses ≡ Some t) × (slice_get f.types k.ty ≡ Some t)

-- captured names with their types
pub record AreCaptured (f : Forms) (names : List (List ℕ)) (uses : Named Ground) (kept : List Kept) : Type 0 where
  pub names_are : AreLocals f (names_of kept) names
  pub types_are : Each (IsKept f uses) kept

-- the table that what has this label changes
abbrev pub IsTouched : Forms → ℕ → List ℕ → Type 0
IsTouched f label table = OneOf (λ touched. touched ≡ record { label = label; table = table }) f.tables

module _ (f : Forms) where
  -- the label of what reads or changes tables: it has no body
  pub record IsBlockLabel (owner n ty label : ℕ) : Type 0 where
    pub form : LabelForm
    pub is : label_at f label ≡ Some form
    pub owner_is : form.owner ≡ owner
    pub ty_is : form.ty ≡ ty
    pub node_is : form.node ≡ Some n
    pub body_is : form.body ≡ None

  -- the label of a function or a lambda, with its body
  pub record IsBodyLabel (owner : ℕ) (node : Option ℕ) (ty label : ℕ) (place : Loc) (names : List (List ℕ)) (params : List Word) (body : Body) : Type 0 where
    pub form : LabelForm
    pub is : label_at f label ≡ Some form
    pub owner_is : form.owner ≡ owner
    pub ty_is : form.ty ≡ ty
    pub node_is : form.node ≡ node
    pub body_is : form.body ≡ Some body
    pub place_is : body.place ≡ place
    pub names_are : AreLocals f body.names names
    pub params_are : AreLocals f body.params (map text_of params)

  -- What a node with this number and this number of its type is without its children, in this instance, and what it takes of what is
  -- to come.
  pub data Shell (owner n ty : ℕ) : Layer → Span → Pending → Kind → Pending → Type 0 where
    operation : {l : Layer} {at : Span} {p : Pending} {o : Op} → op_of l ≡ Some o → Shell owner n ty l at p (kind.Op o) (behind_type p)
    name : {x : List ℕ} {k : ℕ} {at : Span} {p : Pending} → IsLocal f k x → Shell owner n ty (Node-F.Name x) at p (kind.Name k) (behind_type p)
    function : {h : List ℕ} {at : Span} {p : Pending} {i : ℕ} {rest : List ℕ} → p.calls ≡ i ∷ rest → Shell owner n ty (Node-F.Function h) at p (kind.Function i) (behind_use p)
    call : {h : Word} {args : List Expr} {at : Span} {p : Pending} {i : ℕ} {rest : List ℕ} → p.calls ≡ i ∷ rest → Shell owner n ty (Node-F.Call h args) at p (kind.Call i) (behind_use p)
    apply : {e : Expr} {args : List Expr} {at : Span} {p : Pending} → Shell owner n ty (Node-F.Apply e args) at p kind.Apply (behind_type p)
    bind : {x : Word} {k : ℕ} {e rest : Expr} {at : Span} {p : Pending} → IsLocal f k x.text → Shell owner n ty (Node-F.Var x e rest) at p (kind.Bind k) (behind_type p)
    then_next : {e rest : Expr} {at : Span} {p : Pending} → Shell owner n ty (Node-F.Seq e rest) at p kind.Then (behind_type p)
    choose_if : {c d e : Expr} {at : Span} {p : Pending} → Shell owner n ty (Node-F.If c d e) at p (kind.Choose choice.If) (behind_type p)
    choose_and : {a b : Expr} {at : Span} {p : Pending} → Shell owner n ty (Node-F.And a b) at p (kind.Choose choice.And) (behind_type p)
    choose_or : {a b : Expr} {at : Span} {p : Pending} → Shell owner n ty (Node-F.Or a b) at p (kind.Choose choice.Or) (behind_type p)
    choose_where : {c e : Expr} {at : Span} {p : Pending} → Shell owner n ty (Node-F.Where c e) at p (kind.Choose choice.Where) (behind_type p)
    print : {e : Expr} {at : Span} {p : Pending} → Shell owner n ty (Node-F.Print e) at p kind.Print (behind_type p)
    switch : {e : Expr} {cases : List Case} {last : Option LastCase} {forms : List CaseForm} {k : Option ℕ} {at : Span} {p : Pending} → Both (IsCase f) cases forms → IsMaybeLocal f k (option_map last_name last)
        → Shell owner n ty (Node-F.Switch e cases last) at p (kind.Switch forms k) (behind_type p)
    for_list : {x : Word} {k : ℕ} {e body : Expr} {at : Span} {p : Pending} → IsLocal f k x.text → Shell owner n ty (Node-F.ForList x e body) at p (kind.For k) (behind_type p)
    for_table : {x : Word} {k : ℕ} {rows body : Expr} {at : Span} {p : Pending} → IsLocal f k x.text → Shell owner n ty (Node-F.ForTable x rows body) at p (kind.For k) (behind_type p)
    table : {t : Word} {at : Span} {p : Pending} → IsBlockLabel owner n ty p.label → Shell owner n ty (Node-F.Table t) at p (kind.Reach block.TableRead p.label []) (behind_label p)
    insert : {t : Word} {e : Expr} {at : Span} {p : Pending} → IsBlockLabel owner n ty p.label → IsTouched f p.label t.text → Shell owner n ty (Node-F.Insert t e) at p (kind.Reach block.Insert p.label []) (behind_label p)
    query : {keys : List SortKey} {e : Expr} {at : Span} {p : Pending} {kept : List Kept} → IsBlockLabel owner n ty p.label → AreCaptured f (captured_query e) (query_uses e (drop 1 p.types)) kept
        → Shell owner n ty (Node-F.Query keys e) at p (kind.Reach block.Query p.label kept) (behind_block (nodes_in e) (length (uses_in e)) p)
    update : {change : ChangeExpr} {at : Span} {p : Pending} {kept : List Kept} → IsBlockLabel owner n ty p.label → AreCaptured f (captured_change change) (change_uses change (drop 1 p.types)) kept → IsTouched f p.label (out-ChangeExpr change).table.text
        → Shell owner n ty (Node-F.Update change) at p (kind.Reach block.Update p.label kept) (behind_block (total (map nodes_in (change_exprs change))) (length (flat_map uses_in (change_exprs change))) p)
    delete : {change : ChangeExpr} {at : Span} {p : Pending} {kept : List Kept} → IsBlockLabel owner n ty p.label → AreCaptured f (captured_change change) (change_uses change (drop 1 p.types)) kept → IsTouched f p.label (out-ChangeExpr change).table.text
        → Shell owner n ty (Node-F.Delete change) at p (kind.Reach block.Delete p.label kept) (behind_block (total (map nodes_in (change_exprs change))) (length (flat_map uses_in (change_exprs change))) p)

  -- ---- expressions

  module _ (owner : ℕ) where
    mutual
      -- within what has this label, the expression is what this number stands for; before and behind it this is still to come
      pub data IsLowered : ℕ → Expr → Pending → ℕ → Pending → Type 0 where
        node : {within : ℕ} {e : Expr} {before after : Pending} {n : ℕ} (form : Form) (inside between : Pending)
            → n ≡ before.next → form_at f n ≡ Some form → form.at ≡ e.span → form.within ≡ within → TypeIs f form.ty before.types
            → Shell owner n form.ty (layer e) e.span before form.kind inside
            → AreLowered within (parts_of (layer e)) inside form.parts between
            → AreLowered within (tails_of (layer e)) between form.tails after
            → IsLowered within e before n after
        lambda : {within : ℕ} {e : Expr} {before after : Pending} {n : ℕ} (form : Form) (l : LambdaExpr) (xs : List ℕ) (body : Body)
            → layer e ≡ Node-F.Lambda l
            → n ≡ before.next → form_at f n ≡ Some form → form.at ≡ e.span → form.within ≡ within → TypeIs f form.ty before.types
            → form.kind ≡ kind.Lambda before.label xs → AreLocals f xs (captured l) → form.parts ≡ [] → form.tails ≡ []
            → IsBodyLabel owner (Some n) form.ty before.label l.place (captured l) l.params body
            → IsLowered before.label l.body (behind_label before) body.root after
            → IsLowered within e before n after

      pub data AreLowered : ℕ → List Expr → Pending → List ℕ → Pending → Type 0 where
        none : {within : ℕ} {p : Pending} → AreLowered within [] p [] p
        more : {within : ℕ} {e : Expr} {es : List Expr} {before between after : Pending} {n : ℕ} {ns : List ℕ}
            → IsLowered within e before n between → AreLowered within es between ns after → AreLowered within (e ∷ es) before (n ∷ ns) after

  -- ---- programs

  -- instances from this number, this label and this node on; the table has nothing else
  pub data AreFuns : ℕ → List GroundFun → ℕ → ℕ → Type 0 where
    no_fun : {i label next : ℕ} → length f.wholes ≡ i → length f.titles ≡ i → length f.labels ≡ label → length f.nodes ≡ next → AreFuns i [] label next
    one_fun : {i label next : ℕ} {fun : GroundFun} {funs : List GroundFun} (body : Body) (after : Pending) (ty : ℕ)
        → whole_at f i ≡ Some label
        → slice_get f.titles i ≡ Some (function_of fun).name.text
        → TypeIs f ty (fun.ty ∷ [])
        → IsBodyLabel i None ty label (function_of fun).place [] (function_of fun).params body
        → IsLowered i label (function_of fun).body (record { types = fun.types; calls = fun.calls; label = label + 1; next = next }) body.root after
        → AreFuns (1 + i) funs after.label after.next
        → AreFuns i (fun ∷ funs) label next

-- The table is that of the program. Label 0 is `print`, which has no node and no body.
pub record AreForms (g : GroundProgram) (f : Forms) : Type 0 where
  -- each local name once, in byte order
  pub locals : IsStrictlySortedBy (slice_cmp nat_cmp) f.locals
  pub printer : LabelForm
  pub printer_is : label_at f 0 ≡ Some printer
  pub printer_node : printer.node ≡ None
  pub printer_body : printer.body ≡ None
  pub funs : AreFuns f 0 g.funs 1 0
