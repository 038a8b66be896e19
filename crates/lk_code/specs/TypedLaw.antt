-- The laws of typed nodes; their proofs stand in proofs/.
use Rattle.std.specs.Prelude.{◌≡◌, ℕ, ◌+◌, true, List, [], ◌∷◌, ◌++◌, Some, drop, length, nat_lt, suc, take}
use Rattle.lk_ast.specs.declared.place.Loc.{Loc}
use Rattle.lk_ast.specs.declared.place.Loc.TheVariants.{Client, Server}
use Rattle.lk_ast.specs.declared.place.Span.{Span}
use Rattle.lk_ast.specs.declared.value.Value.{Value}
use Rattle.lk_evaluation.specs.Evaluation.{Act, Each, Primitive, Tail, Uses, eval}
use Rattle.lk_evaluation.specs.Run.{Run}
use Rattle.lk_fits.specs.Values.{FitEach}
use Rattle.lk_ir.specs.Environments.{Env, bind_each, lookup_all, no_names}
use Rattle.lk_ir.specs.LetNormal.{Point, act, under}
use Rattle.lk_ir.specs.Tables.{body_at, form_at, names_of}
use Rattle.lk_ir.specs.Uses.{Among, Needs, UsedBehind}
use Rattle.lk_ir.specs.declared.nodes.Block.{Block}
use Rattle.lk_ir.specs.declared.nodes.Body.{Body}
use Rattle.lk_ir.specs.declared.nodes.Cont.{Cont}
use Rattle.lk_ir.specs.declared.nodes.Form.{Form}
use Rattle.lk_ir.specs.declared.nodes.Forms.{Forms}
use Rattle.lk_ir.specs.declared.nodes.Kept.{Kept}
use Rattle.lk_ir.specs.declared.nodes.Kind.{Kind}
use Rattle.lk_ir.specs.declared.nodes.Kind.TheVariants as kind
use Rattle.lk_types.specs.Each.{Each as EachOf}
use Rattle.lk_types.specs.declared.ground.Ground.{Ground}
use Rattle.lk_code.specs.Acting.{FitNames, TypedActs, TypedPoints}
use Rattle.lk_code.specs.Chains.{AreChained}
use Rattle.lk_code.specs.Law.{frame}
use Rattle.lk_code.specs.Meaning.{does, frame_meant, kept_names, language, primitive}
use Rattle.lk_code.specs.Parts.{Asked, Context, HasBody, IsTyped, Rule}
use Rattle.lk_code.specs.Running.{RunsAt}
use Rattle.lk_code.specs.Sound.{AreSound, held_types, told_by}
use Rattle.lk_code.specs.Tables.{cont_at, first_frame, frame_info, fun_info, is_function}
use Rattle.lk_code.specs.Told.{node_types}
use Rattle.lk_code.specs.Values.{IsFun}
use Rattle.lk_code.specs.Waiting.{GoesOn}
use Rattle.lk_code.specs.declared.infos.FrameInfo.{FrameInfo}
use Rattle.lk_code.specs.declared.infos.FunInfo.{FunInfo}
use Rattle.lk_code.specs.declared.tables.CodeTables.{CodeTables}
use Rattle.lk_code.specs.declared.tables.Contents.{Contents}
use Rattle.lk_code.specs.declared.tables.Frame.{Frame}
use Rattle.lk_code.specs.declared.tables.Home.{Home}

-- code with the bodies of all functions, those of either place
pub record IsWhole (c : CodeTables) : Type 0 where
  pub sound : AreSound c
  pub bodies : (label : ℕ) (i : FunInfo) → fun_info c label ≡ Some i → is_function i.kind ≡ true → HasBody c.forms label

-- Sound code that runs at both places has them.
abbrev pub WholeLaw : Type 0
WholeLaw = (c : Contents) → AreSound c.tables → RunsAt c Client → RunsAt c Server → IsWhole c.tables

-- a node by its rule: no step on values of its positions' types lacks a rule, and what it comes to is of the node's type
abbrev pub TypedActsLaw : Type 0
TypedActsLaw = (c : CodeTables) → IsWhole c → TypedActs (IsFun c) c.forms (told_by c)

-- the label does this with values of the types of its parameters, and its result is of this type
pub record Reaches (c : CodeTables) (label : ℕ) (t : Ground) (a : Act Point) : Type 0 where
  pub info : FunInfo
  pub told : fun_info c label ≡ Some info
  pub args : List Value
  pub fit : FitEach (IsFun c) args info.params
  pub result : info.result ≡ t
  pub one : Primitive
  pub does : primitive c info.kind label args ≡ Some one
  pub acts : a ≡ Uses Server one

-- a node that reads or changes tables does what its label does
abbrev pub ReachesLaw : Type 0
ReachesLaw = (c : CodeTables) → IsWhole c → (n : ℕ) (form : Form) (b : Block) (label : ℕ) (kept : List Kept) → form_at c.forms n ≡ Some form → form.kind ≡ kind.Reach b label kept
    → (context : Context) (ts : List Ground) (asked : List Asked) (t : Ground) → Rule c.forms (told_by c) context form.kind ts asked t → (names : Env) → FitNames (IsFun c) (Needs form.kind) context names
    → (values : List Value) → FitEach (IsFun c) values ts → Reaches c label t (act c.forms form.at form.kind form.tails names values)

-- What a call enters (`body_entered` of lk_ir) does what its label does, with the values of what is kept and then those passed.
abbrev pub DoesAsLabels : CodeTables → Type 0
DoesAsLabels c = (label : ℕ) (i : FunInfo) (b : Body) → fun_info c label ≡ Some i → is_function i.kind ≡ true → body_at c.forms label ≡ Some b → (env args : List Value) → length b.names ≡ length env → (place : Loc) (r : Run)
    → eval (language c) (under (bind_each (bind_each no_names b.names env) b.params args) b.root) place r ≡ does c label (env ++ args) place r

abbrev pub CallsLaw : Type 0
CallsLaw = (c : CodeTables) → DoesAsLabels c

-- a point of a type: its positions are points of types, and from values of these it does what one of its type does
abbrev pub TypedPointsLaw : Type 0
TypedPointsLaw = (c : CodeTables) → IsWhole c → TypedPoints (IsFun c) c.forms (told_by c) c.conts

-- The frame of a continuation, with values of the types told of it, waits for a value of the type of its hole, and what it goes on with
-- is of its result's.
abbrev pub TypedFramesLaw : Type 0
TypedFramesLaw = (c : CodeTables) → IsWhole c → (h : Home) (form : Form) (cont : Cont) (i : FrameInfo) → form_at c.forms h.node ≡ Some form → cont_at c h ≡ Some cont → frame_info c (first_frame c + cont.order) ≡ Some i
    → (env : List Value) → FitEach (IsFun c) env i.env → (place : Loc) → GoesOn (IsFun c) c.forms (told_by c) c.conts i.hole i.result (frame_meant c place (frame (first_frame c + cont.order) env))

-- A frame that is made at a typed node, of values of the types of earlier positions and of the names that the continuation keeps, holds
-- values of the types told of it.
abbrev pub HoldsLaw : Type 0
HoldsLaw = (c : CodeTables) → IsWhole c → (h : Home) (form : Form) (cont : Cont) (i : FrameInfo) → form_at c.forms h.node ≡ Some form → cont_at c h ≡ Some cont → frame_info c (first_frame c + cont.order) ≡ Some i
    → (context : Context) (t : Ground) → IsTyped c.forms (told_by c) context h.node t → (names : Env) → FitNames (IsFun c) (λ x. Among x (names_of cont.keeps)) context names
    → (done : List Value) (held : List Ground) → held_types c.forms form h.position ≡ Some held → FitEach (IsFun c) done held
    → (kept : List Value) × (lookup_all names (names_of cont.keeps) ≡ Some kept) × FitEach (IsFun c) (done ++ kept) i.env

-- A node at a position whose frame waits: the node is typed at the frame's result, the names that are kept have what is used behind the
-- position, and the first values are of the types of the earlier positions, behind which the type that is waited for comes.
pub record IsNodeAt (c : CodeTables) (h : Home) (form : Form) (cont : Cont) (i : FrameInfo) (env : List Value) : Type 0 where
  pub context : Context
  pub typed : IsTyped c.forms (told_by c) context h.node i.result
  pub names : FitNames (IsFun c) (UsedBehind c.forms form (drop (suc h.position) form.parts)) context (kept_names c cont (drop h.position env))
  pub held : List Ground
  pub types : node_types c.forms (take (suc h.position) form.parts) ≡ Some (held ++ i.hole ∷ [])
  pub fit : FitEach (IsFun c) (take h.position env) held
  pub long : length (take h.position env) ≡ h.position

-- the frame of a position, with values of the types told of it, is of such a node
abbrev pub NodesLaw : Type 0
NodesLaw = (c : CodeTables) → IsWhole c → (h : Home) (form : Form) (cont : Cont) (i : FrameInfo) → form_at c.forms h.node ≡ Some form → cont_at c h ≡ Some cont → frame_info c (first_frame c + cont.order) ≡ Some i
    → nat_lt h.position (length form.parts) ≡ true → (env : List Value) → FitEach (IsFun c) env i.env → IsNodeAt c h form cont i env

-- where an act goes on with a node, or with several, they are among these
abbrev pub StaysAt : List ℕ → Act Point → Type 0
StaysAt tails (Tail p) = Among p.node tails
StaysAt tails (Each at points) = EachOf (λ (p : Point). Among p.node tails) points
StaysAt tails other = Unit {0}

abbrev pub StaysLaw : Type 0
StaysLaw = (f : Forms) (at : Span) (k : Kind) (tails : List ℕ) (names : Env) (values : List Value) → StaysAt tails (act f at k tails names values)

-- the frames hold values of the types told of them
abbrev pub AreHeld : CodeTables → List Frame → Type 0
AreHeld c frames = EachOf (λ (f : Frame). (i : FrameInfo) → frame_info c f.number ≡ Some i → FitEach (IsFun c) f.env i.env) frames

-- Waiting frames, the next one first: from a value of the one type each goes on with what is of the type that the one behind it waits
-- for, up to the return of a label, whose result is of the other.
abbrev pub ComeTo : CodeTables → Loc → List Frame → Ground → Ground → Type 0
ComeTo c place [] t u = ⊥
ComeTo c place (f ∷ []) t u = (i : FunInfo) × (fun_info c f.number ≡ Some i) × (t ≡ i.result) × (u ≡ i.result)
ComeTo c place (f ∷ g ∷ fs) t u = (s : Ground) × GoesOn (IsFun c) c.forms (told_by c) c.conts t s (frame_meant c place f) × ComeTo c place (g ∷ fs) s u

-- Frames that wait for a value of a type come to one of the type of a label's result.
abbrev pub TypedChainsLaw : Type 0
TypedChainsLaw = (c : CodeTables) → IsWhole c → (frames : List Frame) (t : Ground) → AreChained c frames t → AreHeld c frames → (place : Loc) → (u : Ground) × ComeTo c place frames t u
