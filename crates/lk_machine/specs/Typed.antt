-- What the values that a machine holds fit, and what it keeps of that in a step (preservation: A. K. Wright and M. Felleisen, A Syntactic
-- Approach to Type Soundness, 1994).
use Rattle.std.specs.Prelude.{◌≡◌, ℕ, ◌+◌, true, List, [], ◌∷◌, ◌++◌, Some, length, slice_get, take, drop}
use Rattle.lk_ast.specs.declared.place.Loc.{Loc}
use Rattle.lk_ast.specs.declared.place.Loc.TheVariants.{Client, Server}
use Rattle.lk_ast.specs.declared.value.Value.{Value}
use Rattle.lk_ast.specs.declared.value.Value.TheVariants as value
use Rattle.lk_code.specs.Acting.{FitNames, IsPointOf}
use Rattle.lk_code.specs.Chains.{AreChained}
use Rattle.lk_code.specs.Parts.{Context, IsTyped}
use Rattle.lk_code.specs.Running.{is_at}
use Rattle.lk_code.specs.Sound.{told_by}
use Rattle.lk_code.specs.Tables.{cont_at, first_frame, frame_info, fun_info, is_block}
use Rattle.lk_code.specs.Told.{node_types}
use Rattle.lk_code.specs.TypedLaw.{AreHeld}
use Rattle.lk_code.specs.Values.{IsFun}
use Rattle.lk_code.specs.declared.infos.FrameInfo.{FrameInfo}
use Rattle.lk_code.specs.declared.infos.FunInfo.{FunInfo}
use Rattle.lk_code.specs.declared.infos.FunKind.TheVariants as fun
use Rattle.lk_code.specs.declared.tables.CodeTables.{CodeTables}
use Rattle.lk_code.specs.declared.tables.Frame.{Frame}
use Rattle.lk_fits.specs.Values.{AllFit, FitEach, Fits}
use Rattle.lk_ir.specs.Continuing.{conts_at, only}
use Rattle.lk_ir.specs.Environments.{Env}
use Rattle.lk_ir.specs.LetNormal.{plain_in, under}
use Rattle.lk_ir.specs.Law.{IsSteady}
use Rattle.lk_ir.specs.Tables.{form_at, names_of}
use Rattle.lk_ir.specs.Uses.{UsedBehind}
use Rattle.lk_ir.specs.declared.nodes.Cont.{Cont}
use Rattle.lk_ir.specs.declared.nodes.Form.{Form}
use Rattle.lk_ir.specs.declared.nodes.Kind.TheVariants as kinds
use Rattle.lk_types.specs.Each.{Each}
use Rattle.lk_types.specs.declared.ground.Ground.{Ground}
use Rattle.lk_types.specs.declared.ground.Ground.TheVariants as known
use Rattle.lk_machine.specs.Going.{bodies, other, waiting}
use Rattle.lk_machine.specs.Stepped.{IsReturning}
use Rattle.lk_machine.specs.declared.state.Held.{Held}
use Rattle.lk_machine.specs.declared.state.Next.{Next}
use Rattle.lk_machine.specs.declared.state.Next.TheVariants as next
use Rattle.lk_machine.specs.declared.state.Now.{Now}
use Rattle.lk_machine.specs.declared.state.Now.TheVariants as now
use Rattle.lk_machine.specs.declared.state.State.{State}
use Rattle.lk_machine.specs.declared.state.Turns.{Turns}

-- a machine's place
abbrev pub IsPlace : Loc → Type 0
IsPlace place = other place ≡ place → ⊥

module _ (c : CodeTables) where
  -- ---- frames

  -- the last frame is the return of a label with this result
  abbrev pub ReturnsTo : List Frame → Ground → Type 0
  ReturnsTo [] u = ⊥
  ReturnsTo (f ∷ []) u = (i : FunInfo) × (fun_info c f.number ≡ Some i) × (i.result ≡ u)
  ReturnsTo (f ∷ g ∷ fs) u = ReturnsTo (g ∷ fs) u

  -- These frames, the next one first, wait at a place for a value of the one type, and come to one of the other.
  pub record AreFrames (place : Loc) (frames : List Frame) (t u : Ground) : Type 0 where
    pub chained : AreChained c frames t
    pub held : AreHeld c frames
    pub placed : Each (λ (f : Frame). (i : FrameInfo) → frame_info c f.number ≡ Some i → is_at i.place place ≡ true) frames
    pub returns : ReturnsTo frames u

  -- ---- what comes next

  -- the node stands in a function that runs at this place
  abbrev pub IsHere : Loc → ℕ → Type 0
  IsHere place n = (form : Form) (i : FunInfo) → form_at c.forms n ≡ Some form → fun_info c form.within ≡ Some i → is_at i.place place ≡ true

  -- A node of a type whose first positions have these values: they are of the positions' types, the names have what is used behind them,
  -- and the continuations so far have nothing more to take from the names.
  pub record IsNodeOf (place : Loc) (t : Ground) (h : Held) : Type 0 where
    pub here : IsHere place h.node
    pub form : Form
    pub there : form_at c.forms h.node ≡ Some form
    pub context : Context
    pub typed : IsTyped c.forms (told_by c) context h.node t
    pub names : FitNames (IsFun c) (UsedBehind c.forms form (drop (length h.done) form.parts)) context h.scope
    pub held : List Ground
    pub types : node_types c.forms (take (length h.done) form.parts) ≡ Some held
    pub fit : FitEach (IsFun c) h.done held
    pub steady : IsSteady (take (length h.done) (conts_at c.conts h.node)) h.scope

  -- its next position is this node
  abbrev pub IsNext : Held → ℕ → Type 0
  IsNext h part = (form : Form) × (form_at c.forms h.node ≡ Some form) × (slice_get form.parts (length h.done) ≡ Some part)

  -- its next position is plain
  abbrev pub IsNextPlain : Held → Type 0
  IsNextPlain h = (part : ℕ) × IsNext h part × (plain_in c.forms (form_at c.forms part) ≡ true)

  -- A `for` of a type whose position has the list of these values: it is typed, the list is of the position's type, the names have what its
  -- body uses, and are those alone that are kept where the body has a continuation.
  pub record IsForOf (place : Loc) (t : Ground) (node : ℕ) (form : Form) (x body : ℕ) (values : List Value) (names : Env) : Type 0 where
    pub here : IsHere place node
    pub there : form_at c.forms node ≡ Some form
    pub kind : form.kind ≡ kinds.For x
    pub tail : form.tails ≡ body ∷ []
    pub context : Context
    pub typed : IsTyped c.forms (told_by c) context node t
    pub held : List Ground
    pub types : node_types c.forms form.parts ≡ Some held
    pub elements : FitEach (IsFun c) (value.List values ∷ []) held
    pub fit : FitNames (IsFun c) (UsedBehind c.forms form []) context names
    pub narrow : (cont : Cont) → cont_at c (record { node = node; position = length form.parts }) ≡ Some cont → only (names_of cont.keeps) names ≡ names

  -- The frame of a `for` at its body, from the list made so far, the elements left and what it keeps: its values are of the types told of
  -- it.
  pub record IsTurning (place : Loc) (t : Ground) (node : ℕ) (form : Form) (x body : ℕ) (cont : Cont) (made left kept : List Value) : Type 0 where
    pub here : IsHere place node
    pub there : form_at c.forms node ≡ Some form
    pub kind : form.kind ≡ kinds.For x
    pub tail : form.tails ≡ body ∷ []
    pub is : cont_at c (record { node = node; position = length form.parts }) ≡ Some cont
    pub info : FrameInfo
    pub told : frame_info c (first_frame c + cont.order) ≡ Some info
    pub result : info.result ≡ t
    pub fit : FitEach (IsFun c) (value.List made ∷ value.List left ∷ kept) info.env

  -- several bodies, all plain, which come to lists as the whole does
  pub record AreTurnsOf (t : Ground) (turns : Turns) : Type 0 where
    pub of : Ground
    pub result : t ≡ known.List of
    pub plain : plain_in c.forms (form_at c.forms turns.body) ≡ true
    pub fit : AllFit (IsFun c) turns.made of
    pub bodies : Each (IsPointOf (IsFun c) c.forms (told_by c) t) (bodies turns)

  -- what has a label is called with values that fit, those that a lambda keeps first
  pub record IsCall (label : ℕ) (args : List Value) (t : Ground) (i : FunInfo) : Type 0 where
    pub is : fun_info c label ≡ Some i
    pub fit : FitEach (IsFun c) args (i.env ++ i.params)
    pub result : i.result ≡ t

  -- what runs at the other place alone
  abbrev pub IsCallOut : Loc → ℕ → List Value → Ground → Type 0
  IsCallOut place label args t = (i : FunInfo) × IsCall label args t i × (i.place ≡ other place)

  -- what reads or changes tables
  abbrev pub IsAsked : Loc → ℕ → List Value → Ground → Type 0
  IsAsked place label args t = (i : FunInfo) × IsCall label args t i × (is_block i.kind ≡ true) × (place ≡ Server)

  -- what comes next is of this type
  abbrev pub IsNow : Loc → Now → Ground → Type 0
  IsNow place (now.Enter n scope) t = IsPointOf (IsFun c) c.forms (told_by c) t (under scope n) × IsHere place n
  IsNow place (now.Hold h) t = IsNodeOf place t h × IsNextPlain h
  IsNow place (now.Turn turns) t = AreTurnsOf t turns × (turns.left ≡ [] → ⊥)
  IsNow place (now.Give v) t = Fits (IsFun c) v t
  IsNow place (now.Cross label args) t = IsCallOut place label args t
  IsNow place (now.First label args) t = IsAsked place label args t
  IsNow place now.Waits t = Unit {0}
  IsNow place now.Over t = Unit {0}

  -- ---- machines

  -- a machine that has or waits for a value of the one type, and comes to one of the other
  pub record IsOf (m : State) (t u : Ground) : Type 0 where
    pub place : IsPlace m.place
    pub next : IsNow m.place m.now t
    pub frames : AreFrames m.place (waiting c m.stack) t u

  abbrev pub IsUnderWay : Now → Type 0
  IsUnderWay now.Waits = ⊥
  IsUnderWay now.Over = ⊥
  IsUnderWay step = Unit {0}

  -- a machine that may step, and comes to a value of this type
  abbrev pub MaySteps : State → Ground → Type 0
  MaySteps m u = (t : Ground) × IsOf m t u × IsUnderWay m.now

  -- What a step leaves of a machine that comes to a value of this type, by its answer: one that may step on, at the client never one that
  -- waits to go back with the value that it has. Behind a call of the other place its frames wait
  -- for the result, as others see them.
  abbrev pub Leaves : State → Ground → Next → Type 0
  Leaves m u next.More = MaySteps m u × (m.place ≡ Client → IsReturning m → ⊥)
  Leaves m u (next.Ended v) = Fits (IsFun c) v u
  Leaves m u (next.Trapped trap) = Unit {0}
  Leaves m u (next.CallOut label args) = (i : FunInfo) × IsCall label args i.result i × (i.place ≡ other m.place) × AreFrames m.place m.stack i.result u
  Leaves m u (next.Db label args) = (i : FunInfo) × IsCall label args i.result i × (is_block i.kind ≡ true) × (m.now ≡ now.Waits) × IsOf m i.result u

  -- ---- what callers owe

  -- a label of this place, or of any, but not that of `print`, with values that fit
  abbrev pub MayStart : Loc → ℕ → List Value → Ground → Type 0
  MayStart place label args u = (i : FunInfo) × IsCall label args u i × (is_at i.place place ≡ true) × (i.kind ≡ fun.Print → ⊥)
