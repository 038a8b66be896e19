-- Typed nodes of a table: what each kind asks of the types of its positions, and of its tails under which names. No effects are
-- looked at.
use Rattle.std.specs.Prelude.{◌≡◌, ℕ, ◌==◌, Bool, true, false, List, [], ◌∷◌, ◌++◌, Option, Some, None, if◌then◌else◌, length}
use Rattle.lk_ast.specs.declared.table.BaseKind.TheVariants as base
use Rattle.lk_types.specs.Rows.{Label, Row, EffectSet, no_fields}
use Rattle.lk_types.specs.declared.ground.Ground.{Ground}
use Rattle.lk_types.specs.declared.ground.Ground.TheVariants as known
use Rattle.lk_types.specs.declared.ty.Effect.{Effect}
use Rattle.lk_typing.specs.Heads as head
use Rattle.lk_typing.specs.Heads.{Head}
use Rattle.lk_typing.specs.Names.{Named}
use Rattle.lk_typing.specs.Rules as typing
use Rattle.lk_typing.specs.Types.{variant_of, unit, with_fields}
use Rattle.lk_ir.specs.Tables.{form_at, body_at, label_at, whole_at}
use Rattle.lk_ir.specs.Uses.{Among}
use Rattle.lk_ir.specs.declared.nodes.Block.{Block}
use Rattle.lk_ir.specs.declared.nodes.Block.TheVariants as block
use Rattle.lk_ir.specs.declared.nodes.Body.{Body}
use Rattle.lk_ir.specs.declared.nodes.CaseForm.{CaseForm}
use Rattle.lk_ir.specs.declared.nodes.Choice.TheVariants as choice
use Rattle.lk_ir.specs.declared.nodes.Form.{Form}
use Rattle.lk_ir.specs.declared.nodes.Forms.{Forms}
use Rattle.lk_ir.specs.declared.nodes.Kept.{Kept}
use Rattle.lk_ir.specs.declared.nodes.Kind.{Kind}
use Rattle.lk_ir.specs.declared.nodes.Kind.TheVariants as kind
use Rattle.lk_ir.specs.declared.nodes.Op.{Op}
use Rattle.lk_ir.specs.declared.nodes.LabelForm.{LabelForm}
use Rattle.lk_ir.specs.declared.nodes.Op.TheVariants as op
use Rattle.lk_code.specs.Tables.{node_of, type_at}

-- local names by their numbers, each with its type; of two entries with one name the first counts
abbrev pub Context : Type 0
Context = List (ℕ × Ground)

abbrev pub type_in : ℕ → Context → Option Ground
type_in x [] = None
type_in x (entry ∷ entries) = if entry.0 == x then Some entry.1 else type_in x entries

-- what is told of a label: the types of a body's parameters, of what it keeps, and of its result
pub record Info : Type 0 where
  pub params : List Ground
  pub effects : List Effect
  pub result : Ground
  pub env : List Ground

abbrev pub function_type : Info → Ground
function_type i = known.Fun i.params i.effects i.result

-- the operator of the typing rules that an operation is
abbrev pub head_of : Op → Head
head_of (op.Int n) = head.Literal base.Int
head_of (op.Text bytes) = head.Literal base.Text
head_of (op.Bool b) = head.Literal base.Bool
head_of op.List = head.Items
head_of op.Concat = head.Concat
head_of op.Append = head.Append
head_of op.Cons = head.Cons
head_of op.Add = head.Arithmetic
head_of op.Sub = head.Arithmetic
head_of op.Mul = head.Arithmetic
head_of op.Div = head.Division
head_of op.Mod = head.Division
head_of op.Eq = head.Comparison
head_of op.Ne = head.Comparison
head_of op.Lt = head.Comparison
head_of op.Le = head.Comparison
head_of op.Gt = head.Comparison
head_of op.Ge = head.Comparison
head_of op.Neg = head.Negation
head_of op.Not = head.Not
head_of op.Hd = head.First
head_of op.Tl = head.Rest
head_of op.Empty = head.Empty
head_of op.IntToString = head.IntToString
head_of (op.Record labels) = head.Record labels
head_of (op.Extend labels) = head.Extend labels
head_of (op.Project label) = head.Project label
head_of (op.Tag tag) = head.Tag tag

abbrev pub every : EffectSet
every = λ _. true

-- whether a block takes what it captures: an insertion takes the value of its part
abbrev pub captures : Block → Bool
captures block.Insert = false
captures other = true

-- names under which a body stands
abbrev pub under_names : List ℕ → List Ground → Context → Context
under_names (x ∷ xs) (t ∷ ts) c = (x, t) ∷ under_names xs ts c
under_names _ _ c = c

abbrev pub AreNamed : Context → List ℕ → List Ground → Type 0
AreNamed c [] [] = Unit {0}
AreNamed c (x ∷ xs) (t ∷ ts) = (type_in x c ≡ Some t) × AreNamed c xs ts
AreNamed c xs ts = ⊥

-- captured names, each with the number of its type
abbrev pub AreKept : Forms → Context → List Kept → List Ground → Type 0
AreKept f c [] [] = Unit {0}
AreKept f c (k ∷ kept) (t ∷ ts) = (type_in k.name c ≡ Some t) × (type_at f k.ty ≡ Some t) × AreKept f c kept ts
AreKept f c kept ts = ⊥

-- what is asked of a tail: under these names it has this type
abbrev pub Asked : Type 0
Asked = Context × Ground

-- the cases of a switch: their tags with what these hold, and what is asked of their bodies
pub data CaseRules (c : Context) (t : Ground) : List CaseForm → Named Ground → List Asked → Type 0 where
  no_case : CaseRules c t [] [] []
  under_name : {tag : Label} {x : ℕ} {a : Ground} {cases : List CaseForm} {tags : Named Ground} {asked : List Asked} → CaseRules c t cases tags asked
      → CaseRules c t (record { tag = tag; name = Some x } ∷ cases) ((tag, a) ∷ tags) (((x, a) ∷ c, t) ∷ asked)
  bare : {tag : Label} {cases : List CaseForm} {tags : Named Ground} {asked : List Asked} → CaseRules c t cases tags asked
      → CaseRules c t (record { tag = tag; name = None } ∷ cases) ((tag, unit) ∷ tags) ((c, t) ∷ asked)

-- what has this label has a body
abbrev pub HasBody : Forms → ℕ → Type 0
HasBody f label = (b : Body) × (body_at f label ≡ Some b)

module _ (f : Forms) (info : ℕ → Option Info) where
  pub data Rule (c : Context) : Kind → List Ground → List Asked → Ground → Type 0 where
    operation : {o : Op} {ts : List Ground} {t : Ground} → typing.Rule [] [] [] every (head_of o) ts t → Rule c (kind.Op o) ts [] t
    name : {x : ℕ} {t : Ground} → type_in x c ≡ Some t → Rule c (kind.Name x) [] [] t
    function : {i label : ℕ} {of : Info} → whole_at f i ≡ Some label → info label ≡ Some of → of.env ≡ [] → HasBody f label → Rule c (kind.Function i) [] [] (function_type of)
    lambda : {label : ℕ} {xs : List ℕ} {of : Info} → info label ≡ Some of → AreNamed c xs of.env → HasBody f label → Rule c (kind.Lambda label xs) [] [] (function_type of)
    call : {i label : ℕ} {of : Info} → whole_at f i ≡ Some label → info label ≡ Some of → of.env ≡ [] → HasBody f label → Rule c (kind.Call i) of.params [] of.result
    apply : {ts : List Ground} {t : Ground} (effects : List Effect) → Rule c kind.Apply (known.Fun ts effects t ∷ ts) [] t
    bind : {x : ℕ} {a t : Ground} → Rule c (kind.Bind x) (a ∷ []) (((x, a) ∷ c, t) ∷ []) t
    then_next : {t : Ground} → Rule c kind.Then (unit ∷ []) ((c, t) ∷ []) t
    choose_if : {t : Ground} → Rule c (kind.Choose choice.If) (known.Bool ∷ []) ((c, t) ∷ (c, t) ∷ []) t
    choose_and : Rule c (kind.Choose choice.And) (known.Bool ∷ []) ((c, known.Bool) ∷ []) known.Bool
    choose_or : Rule c (kind.Choose choice.Or) (known.Bool ∷ []) ((c, known.Bool) ∷ []) known.Bool
    choose_where : (a : Ground) → Rule c (kind.Choose choice.Where) (known.Bool ∷ []) ((c, known.List a) ∷ []) (known.List a)
    print : Rule c kind.Print (known.Text ∷ []) [] unit
    switch : {cases : List CaseForm} {tags : Named Ground} {asked : List Asked} {t : Ground} (row : Row) → CaseRules c t cases tags asked → with_fields tags no_fields ≡ Some row
        → Rule c (kind.Switch cases None) (variant_of row ∷ []) asked t
    switch_open : {cases : List CaseForm} {x : ℕ} {tags : Named Ground} {asked : List Asked} {t : Ground} (other row : Row) → CaseRules c t cases tags asked → with_fields tags other ≡ Some row
        → Rule c (kind.Switch cases (Some x)) (variant_of row ∷ []) (asked ++ ((x, variant_of other) ∷ c, t) ∷ []) t
    for_each : {x : ℕ} (a b : Ground) → Rule c (kind.For x) (known.List a ∷ []) (((x, a) ∷ c, known.List b) ∷ []) (known.List b)
    insert : {label : ℕ} {a : Ground} {of : Info} → info label ≡ Some of → of.params ≡ a ∷ [] → Rule c (kind.Reach block.Insert label []) (a ∷ []) [] of.result
    reach : {b : Block} {label : ℕ} {kept : List Kept} {of : Info} → captures b ≡ true → info label ≡ Some of → AreKept f c kept of.params → Rule c (kind.Reach b label kept) [] [] of.result

  mutual
    pub data IsTyped : Context → ℕ → Ground → Type 0 where
      node : {c : Context} {n : ℕ} {t : Ground} (form : Form) (ts : List Ground) (asked : List Asked) → form_at f n ≡ Some form → type_at f form.ty ≡ Some t
          → Rule c form.kind ts asked t → AreTyped c form.parts ts → HaveTypes form.tails asked → IsTyped c n t

    pub data AreTyped : Context → List ℕ → List Ground → Type 0 where
      none : {c : Context} → AreTyped c [] []
      more : {c : Context} {n : ℕ} {ns : List ℕ} {t : Ground} {ts : List Ground} → IsTyped c n t → AreTyped c ns ts → AreTyped c (n ∷ ns) (t ∷ ts)

    pub data HaveTypes : List ℕ → List Asked → Type 0 where
      no_tail : HaveTypes [] []
      tail : {n : ℕ} {ns : List ℕ} {r : Asked} {rs : List Asked} → IsTyped r.0 n r.1 → HaveTypes ns rs → HaveTypes (n ∷ ns) (r ∷ rs)

  -- the body is typed at its names', parameters' and result's types
  pub record IsTypedBody (label : ℕ) (b : Body) : Type 0 where
    pub of : Info
    pub is : info label ≡ Some of
    pub params_long : length b.params ≡ length of.params
    pub names_long : length b.names ≡ length of.env
    pub typed : IsTyped (under_names b.params of.params (under_names b.names of.env [])) b.root of.result

  -- so are the bodies of all lambdas in what has this number
  mutual
    pub data HasBodies : ℕ → Type 0 where
      with_bodies : {n : ℕ} (form : Form) → form_at f n ≡ Some form
          → ((label : ℕ) (xs : List ℕ) (b : Body) → form.kind ≡ kind.Lambda label xs → body_at f label ≡ Some b → IsTypedBody label b)
          → ((label : ℕ) (xs : List ℕ) (b : Body) → form.kind ≡ kind.Lambda label xs → body_at f label ≡ Some b → HasBodies b.root)
          → HaveBodies form.parts → HaveBodies form.tails → HasBodies n

    pub data HaveBodies : List ℕ → Type 0 where
      no_bodies : HaveBodies []
      more_bodies : {n : ℕ} {ns : List ℕ} → HasBodies n → HaveBodies ns → HaveBodies (n ∷ ns)

  -- no name twice: of several values under one name the last counts, of several types the first
  abbrev pub AreDistinct : List ℕ → Type 0
  AreDistinct [] = Unit {0}
  AreDistinct (x ∷ xs) = (Among x xs → ⊥) × AreDistinct xs

  -- A node stands in the function in which its positions and tails do, and the root of a body in what has the body's label.
  pub record AreWithin : Type 0 where
    pub children : (n : ℕ) (form : Form) (k : ℕ) (child : Form) → form_at f n ≡ Some form → Among k (form.parts ++ form.tails) → form_at f k ≡ Some child → child.within ≡ form.within
    pub roots : (label : ℕ) (b : Body) (root : Form) → body_at f label ≡ Some b → form_at f b.root ≡ Some root → root.within ≡ label

  -- Each body and each node is typed. No body binds a name twice; what is called without a value keeps nothing; what reads or changes
  -- tables has a label of its own; and nodes stand in the functions in which their bodies do.
  pub record AreTypedForms : Type 0 where
    pub bodies : (label : ℕ) (b : Body) → body_at f label ≡ Some b → IsTypedBody label b
    pub nodes : (n : ℕ) (form : Form) → form_at f n ≡ Some form → (c : Context) × (t : Ground) × IsTyped c n t
    pub once : (label : ℕ) (b : Body) → body_at f label ≡ Some b → AreDistinct b.params × AreDistinct b.names
    pub tops : (label : ℕ) (l : LabelForm) (b : Body) → label_at f label ≡ Some l → l.node ≡ None → l.body ≡ Some b → b.names ≡ []
    pub blocks : (n : ℕ) (form : Form) (b : Block) (label : ℕ) (kept : List Kept) → form_at f n ≡ Some form → form.kind ≡ kind.Reach b label kept → (node_of f label ≡ Some n) × (body_at f label ≡ None)
    pub within : AreWithin
