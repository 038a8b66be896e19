-- Sound code: its bodies and nodes are typed by what is told of labels, its continuations keep just what is used, and each position
-- that has one has a frame of its own, by the types of what it holds. So no step on values that fit lacks a rule where all is there
-- that is needed.
use Rattle.std.specs.Prelude.{◌≡◌, ◌⊎◌, ◌≤◌, ℕ, ◌+◌, true, false, List, [], ◌∷◌, ◌++◌, Option, Some, length, nat_lt, if◌then◌else◌, slice_get, take}
use Rattle.std.specs.Option.{option_and_then, option_map}
use Rattle.lk_ast.specs.declared.place.Loc.TheVariants.{Client, Server}
use Rattle.lk_ground_types.specs.Shapes.{has_function}
use Rattle.lk_ir.specs.Tables.{body_at, form_at}
use Rattle.lk_ir.specs.TypedUses.{AreNamedAs}
use Rattle.lk_ir.specs.Uses.{AreNamed}
use Rattle.lk_ir.specs.declared.ir.CpsProgram.{CpsProgram}
use Rattle.lk_ir.specs.declared.nodes.Block.{Block}
use Rattle.lk_ir.specs.declared.nodes.Block.TheVariants as block
use Rattle.lk_ir.specs.declared.nodes.Body.{Body}
use Rattle.lk_ir.specs.declared.nodes.Cont.{Cont}
use Rattle.lk_ir.specs.declared.nodes.Form.{Form}
use Rattle.lk_ir.specs.declared.nodes.Forms.{Forms}
use Rattle.lk_ir.specs.declared.nodes.Kept.{Kept}
use Rattle.lk_ir.specs.declared.nodes.Kind.TheVariants as kind
use Rattle.lk_types.specs.declared.ground.Ground.{Ground}
use Rattle.lk_types.specs.declared.ground.Ground.TheVariants as known
use Rattle.lk_code.specs.Parts.{AreTypedForms, Info}
use Rattle.lk_code.specs.Tables.{cont_at, first_frame, frame_info, fun_info, home_of, is_block, is_function, node_type, type_at}
use Rattle.lk_code.specs.Told.{info_in, kept_types, node_types, printer}
use Rattle.lk_code.specs.declared.infos.FrameInfo.{FrameInfo}
use Rattle.lk_code.specs.declared.infos.FunInfo.{FunInfo}
use Rattle.lk_code.specs.declared.infos.FunKind.{FunKind}
use Rattle.lk_code.specs.declared.infos.FunKind.TheVariants as fun
use Rattle.lk_code.specs.declared.tables.CodeTables.{CodeTables}
use Rattle.lk_code.specs.declared.tables.Home.{Home}

-- ---- labels

abbrev pub info_of : FunInfo → Info
info_of i = record { params = i.params; effects = i.effects; result = i.result; env = i.env }

-- what code tells of its labels
abbrev pub told_by : CodeTables → ℕ → Option Info
told_by c label = option_map info_of (fun_info c label)

abbrev pub IsPrinter : FunInfo → Type 0
IsPrinter i = (i.kind ≡ fun.Print) × (i.place ≡ Client) × (info_of i ≡ printer)

-- the function that sessions begin with: its answer has no function in it
pub record IsMain (i : FunInfo) : Type 0 where
  pub kind : i.kind ≡ fun.Top
  pub place : i.place ≡ Client
  pub params : i.params ≡ known.Text ∷ []
  pub env : i.env ≡ []
  pub plain : has_function i.result ≡ false

abbrev pub kind_of : Block → FunKind
kind_of block.Query = fun.Query
kind_of block.TableRead = fun.TableRead
kind_of block.Insert = fun.Insert
kind_of block.Update = fun.Update
kind_of block.Delete = fun.Delete

-- ---- frames

-- The return frame of a label waits for its result and hands it on.
pub record IsReturnOf (i : FunInfo) (r : FrameInfo) : Type 0 where
  pub place : r.place ≡ i.place
  pub env : r.env ≡ []
  pub hole : r.hole ≡ i.result
  pub result : r.result ≡ i.result

-- The types of the values that a frame at this position holds before those that its continuation keeps: the values of earlier
-- positions, or, at the body of a `for`, the list made so far and the elements left.
abbrev pub held_types : Forms → Form → ℕ → Option (List Ground)
held_types f form position = if nat_lt position (length form.parts) then node_types f (take position form.parts) else option_and_then (λ t. option_map (λ ts. t ∷ ts) (node_types f form.parts)) (type_at f form.ty)

-- the type of the child that a frame at this position waits for
abbrev pub hole_type : Forms → Form → ℕ → Option Ground
hole_type f form position = option_and_then (node_type f) (slice_get (form.parts ++ form.tails) position)

-- the frame of a position, by its types
pub record IsFrameOf (f : Forms) (form : Form) (position : ℕ) (cont : Cont) (i : FrameInfo) : Type 0 where
  pub held : List Ground
  pub held_are : held_types f form position ≡ Some held
  pub kept : List Ground
  pub kept_are : kept_types f cont.keeps ≡ Some kept
  pub env : i.env ≡ held ++ kept
  pub hole : hole_type f form position ≡ Some i.hole
  pub result : type_at f form.ty ≡ Some i.result

-- the position of a node that has this continuation has a frame, whose number says where the continuation stands among all
pub record HasFrame (c : CodeTables) (h : Home) (form : Form) (cont : Cont) : Type 0 where
  pub home : home_of c (first_frame c + cont.order) ≡ Some h
  pub info : FrameInfo
  pub is : frame_info c (first_frame c + cont.order) ≡ Some info
  pub within : FunInfo
  pub within_is : fun_info c form.within ≡ Some within
  pub place : info.place ≡ within.place
  pub types : IsFrameOf c.forms form h.position cont info

-- the number is that of a continuation, by its place among all
pub record IsNumbered (c : CodeTables) (number : ℕ) : Type 0 where
  pub home : Home
  pub form : Form
  pub cont : Cont
  pub there : form_at c.forms home.node ≡ Some form
  pub is : cont_at c home ≡ Some cont
  pub numbered : number ≡ first_frame c + cont.order

-- ---- code

pub record AreSound (c : CodeTables) : Type 0 where
  -- label 0 alone is `print`, and label 1 what sessions begin with
  pub printer : (i : FunInfo) × (fun_info c 0 ≡ Some i) × IsPrinter i
  pub alone : (label : ℕ) (i : FunInfo) → fun_info c label ≡ Some i → i.kind ≡ fun.Print → label ≡ 0
  pub main : (i : FunInfo) × (fun_info c 1 ≡ Some i) × IsMain i
  -- only lambdas keep values
  pub keeps : (label : ℕ) (i : FunInfo) → fun_info c label ≡ Some i → (i.kind ≡ fun.Lambda) ⊎ (i.env ≡ [])
  -- what reads or changes tables runs at the server
  pub servers : (label : ℕ) (i : FunInfo) → fun_info c label ≡ Some i → is_block i.kind ≡ true → i.place ≡ Server
  -- instances and lambdas have bodies, at their places
  pub bodies : (label : ℕ) (b : Body) → body_at c.forms label ≡ Some b → (i : FunInfo) × (fun_info c label ≡ Some i) × (is_function i.kind ≡ true) × (b.place ≡ i.place)
  pub blocks : (n : ℕ) (form : Form) (b : Block) (label : ℕ) (kept : List Kept) → form_at c.forms n ≡ Some form → form.kind ≡ kind.Reach b label kept → (i : FunInfo) × (fun_info c label ≡ Some i) × (i.kind ≡ kind_of b)
  pub forms : AreTypedForms c.forms (told_by c)
  pub named : AreNamed c.forms c.conts
  pub named_as : AreNamedAs c.forms c.conts
  pub returns : (label : ℕ) (i : FunInfo) → fun_info c label ≡ Some i → (r : FrameInfo) × (frame_info c label ≡ Some r) × IsReturnOf i r
  pub frames : (h : Home) (form : Form) (cont : Cont) → form_at c.forms h.node ≡ Some form → cont_at c h ≡ Some cont → HasFrame c h form cont
  -- and each frame that is no return is that of a continuation, by its place among all
  pub homes : (number : ℕ) (i : FrameInfo) → frame_info c number ≡ Some i → first_frame c ≤ number → IsNumbered c number

-- A program with continuations that is typed by what it tells itself of its labels: what numbers are given to is then sound.
pub record IsTypedProgram (p : CpsProgram) : Type 0 where
  pub forms : AreTypedForms p.forms (info_in p)
  pub named : AreNamed p.forms p.conts
  pub named_as : AreNamedAs p.forms p.conts
