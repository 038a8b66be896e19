-- The laws of lowering: a table that is one of a ground program means the same; their proofs stand in proofs/.
use Rattle.std.specs.Prelude.{◌≡◌, ℕ, Bool, true, false, List, [], ◌∷◌, length, map, Option, Some, None, IsSome}
use Rattle.lk_ast.specs.Layers.{Layer, layer}
use Rattle.lk_ast.specs.declared.expression.Node.TheOpen.{Node-F}
use Rattle.lk_ast.specs.declared.place.Loc.{Loc}
use Rattle.lk_ast.specs.declared.place.Loc.TheVariants.{Client}
use Rattle.lk_ast.specs.declared.place.Span.{Span}
use Rattle.lk_ast.specs.declared.table.Row.{Row}
use Rattle.lk_ast.specs.declared.value.FunValue.{FunValue}
use Rattle.lk_ast.specs.declared.value.Value.{Value}
use Rattle.lk_bag.specs.Legal.{captured_in}
use Rattle.lk_code.specs.Tables.{node_of}
use Rattle.lk_evaluation.specs.Evaluation.{Goto, eval}
use Rattle.lk_evaluation.specs.Laws.{Match}
use Rattle.lk_evaluation.specs.Run.{Run, start}
use Rattle.lk_evaluation.specs.Source as source
use Rattle.lk_ground.specs.Language as language
use Rattle.lk_ground.specs.Language.{call_labelled, function_of, ground, instance, labelled}
use Rattle.lk_ground.specs.Law.{AreInstances}
use Rattle.lk_ground.specs.UsesApart.{AreUsesApart}
use Rattle.lk_ground.specs.declared.program.GroundFun.{GroundFun}
use Rattle.lk_ground.specs.declared.program.GroundProgram.{GroundProgram}
use Rattle.lk_index.specs.Places.{ArePlaced}
use Rattle.lk_ir.specs.Environments as numbered
use Rattle.lk_ir.specs.LetNormal.{Point, kept_by, let_normal, main_point, under}
use Rattle.lk_ir.specs.Tables.{body_at, form_at, label_at, names_of}
use Rattle.lk_ir.specs.declared.nodes.Block.{Block}
use Rattle.lk_ir.specs.declared.nodes.Block.TheVariants as block
use Rattle.lk_ir.specs.declared.nodes.Body.{Body}
use Rattle.lk_ir.specs.declared.nodes.Form.{Form}
use Rattle.lk_ir.specs.declared.nodes.Forms.{Forms}
use Rattle.lk_ir.specs.declared.nodes.Kept.{Kept}
use Rattle.lk_ir.specs.declared.nodes.Kind.{Kind}
use Rattle.lk_ir.specs.declared.nodes.Kind.TheVariants as kind
use Rattle.lk_ir.specs.declared.nodes.LabelForm.{LabelForm}
use Rattle.lk_locals.specs.Names.{bind_each, no_names}
use Rattle.lk_lower.specs.Lowering.{AreForms, AreLocals}
use Rattle.lk_moves.specs.Laws.{Equal}
use Rattle.lk_operators.specs.Values.{text}
use Rattle.lk_places.specs.Law.{AreMarksApart}
use Rattle.lk_sites.specs.Sites.{Site, sites_of}
use Rattle.lk_sound.specs.Within.{IsFunctionOf}
use Rattle.lk_types.specs.Each.{Each, OneOf}
use Rattle.lk_lowered.specs.Meeting.{Meets, Ready}

-- the table of a ground program, in whose text what a table goes by begins at places apart: functions and lambdas, uses, and lambdas
-- and what acts on tables
pub record IsTableOf (g : GroundProgram) (f : Forms) : Type 0 where
  pub forms : AreForms g f
  pub instances : AreInstances g
  pub placed : ArePlaced g.program.now
  pub uses : AreUsesApart g.program.now
  pub marks : AreMarksApart g.program.now

-- Each node stands in an instance or a lambda that has a body.
abbrev pub StandsLaw : Type 0
StandsLaw = (g : GroundProgram) (f : Forms) → AreForms g f → (n : ℕ) (form : Form) → form_at f n ≡ Some form → IsSome (body_at f form.within)

-- The two languages match: what an expression is lowered to does, step by step, what the expression does, on equal values.
abbrev pub LowersLaw : Type 0
LowersLaw = (g : GroundProgram) (f : Forms) → IsTableOf g f → Match (ground g) (let_normal f) (Meets g f) Equal

-- where a session begins
abbrev pub main_at : GroundFun → List ℕ → language.Point
main_at main arg = language.within 0 (source.under (bind_each no_names (map (λ x. x.text) (function_of main).params) (text arg ∷ [])) (function_of main).body)

-- The body of label 1 is what that of the first instance is lowered to: a session begins at points that meet.
abbrev pub BeginsLaw : Type 0
BeginsLaw = (g : GroundProgram) (f : Forms) → IsTableOf g f → (main : GroundFun) → instance g 0 ≡ Some main
    → (b : Body) × (body_at f 1 ≡ Some b) × ((arg : List ℕ) → Meets g f (main_at main arg) (main_point b arg))

-- the evaluation of the body of label 1 is the session of the ground program that begins in this instance
abbrev pub HasSession : GroundProgram → Forms → GroundFun → Type 0
HasSession g f main = (b : Body) → body_at f 1 ≡ Some b → (arg : List ℕ) (fuel : ℕ) (answers : List (List Row))
    → language.session g (function_of main) arg (start fuel answers) ≡ eval (let_normal f) (main_point b arg) Client (start fuel answers)

-- So it is with the first instance.
abbrev pub SessionsLaw : Type 0
SessionsLaw = (g : GroundProgram) (f : Forms) → IsTableOf g f → (main : GroundFun) → instance g 0 ≡ Some main → HasSession g f main

-- ---- calls of function values

-- where the body of a label begins: its names have the values that are kept, none where it is that of an instance, and then its parameters
-- those that are passed
abbrev pub entered_point : LabelForm → Body → List Value → List Value → Point
entered_point l b env args = under (numbered.bind_each (numbered.bind_each numbered.no_names b.names (kept_by l.node env)) b.params args) b.root

-- The label of a function value has a body in the table, which runs at this mark and has a parameter for each argument. Where it begins, it
-- does what the ground program does at this point.
pub record IsEntered (g : GroundProgram) (f : Forms) (callee : FunValue) (args : List Value) (mark : Loc) (point : language.Point) : Type 0 where
  pub label : LabelForm
  pub label_is : label_at f callee.site ≡ Some label
  pub body : Body
  pub body_is : label.body ≡ Some body
  pub place : body.place ≡ mark
  pub params : length body.params ≡ length args
  pub same : (at : Loc) (r : Run) → eval (ground g) point at r ≡ eval (let_normal f) (entered_point label body callee.env args) at r

-- a call of a function value goes, in the ground program, to what the body of its label is in the table
abbrev pub HasCalls : GroundProgram → Forms → Type 0
HasCalls g f = (at : Span) (callee : FunValue) (args : List Value) (mark : Loc) (called : FunValue) (passed : List Value) (point : language.Point)
    → call_labelled g at callee args (labelled g callee.site) ≡ Goto mark called passed point → IsEntered g f callee args mark point

abbrev pub EntersLaw : Type 0
EntersLaw = (g : GroundProgram) (f : Forms) → IsTableOf g f → HasCalls g f

-- ---- sites

-- each instance is one of a function of the program
abbrev pub AreDeclared : GroundProgram → Type 0
AreDeclared g = (i : ℕ) (fun : GroundFun) → instance g i ≡ Some fun → IsFunctionOf g.program.now (function_of fun)

-- all that acts on tables but insertions
abbrev pub has_site : Block → Bool
has_site block.Insert = false
has_site other = true

abbrev pub is_reach : Kind → Bool
is_reach (kind.Reach b label kept) = has_site b
is_reach other = false

-- what has this label has this node and no body, and is a query, a reading of a table, an update or a deletion
pub record IsReached (f : Forms) (label n : ℕ) : Type 0 where
  pub node : node_of f label ≡ Some n
  pub body : body_at f label ≡ None
  pub form : Form
  pub is : form_at f n ≡ Some form
  pub reach : is_reach form.kind ≡ true

-- how what stands there acts on tables, if it does
abbrev pub block_of : Layer → Option Block
block_of (Node-F.Query keys e) = Some block.Query
block_of (Node-F.Table t) = Some block.TableRead
block_of (Node-F.Insert t e) = Some block.Insert
block_of (Node-F.Update change) = Some block.Update
block_of (Node-F.Delete change) = Some block.Delete
block_of other = None

-- The node with this number is what the block of this site is lowered to where it stands in its instance. So it begins where the block
-- does, acts on tables as the block does and captures the same names; and it has the site's label.
pub record IsSiteAt (g : GroundProgram) (f : Forms) (n : ℕ) (site : Site) : Type 0 where
  pub ready : Ready g f site.fun site.block n
  pub reached : IsReached f site.label n
  pub at : reached.form.at ≡ site.block.span
  pub block : Block
  pub is : block_of (layer site.block) ≡ Some block
  pub kept : List Kept
  pub kind_is : reached.form.kind ≡ kind.Reach block site.label kept
  pub captures : AreLocals f (names_of kept) (captured_in site.block)

-- one of the ground program's sites has this label, and this node is what stands there
abbrev pub HasSite : GroundProgram → Forms → ℕ → ℕ → Type 0
HasSite g f label n = OneOf (λ (site : Site). (site.label ≡ label) × IsSiteAt g f n site) (sites_of g)

-- So it is of each label and of each node that is a query, a reading, an update or a deletion; and each site has its node.
pub record AreSited (g : GroundProgram) (f : Forms) : Type 0 where
  pub labels : (label n : ℕ) → IsReached f label n → HasSite g f label n
  pub nodes : (n : ℕ) (form : Form) (b : Block) (label : ℕ) (kept : List Kept) → form_at f n ≡ Some form → form.kind ≡ kind.Reach b label kept → has_site b ≡ true → HasSite g f label n
  pub sites : Each (λ (site : Site). (n : ℕ) × IsSiteAt g f n site) (sites_of g)

-- The queries, readings, updates and deletions in a table of a ground program are its sites, label by label.
abbrev pub SitedLaw : Type 0
SitedLaw = (g : GroundProgram) (f : Forms) → AreForms g f → AreDeclared g → AreSited g f
