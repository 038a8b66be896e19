-- The laws of what numbers stand for; their proofs stand in proofs/.
use Rattle.std.specs.Prelude.{◌≡◌, ℕ, ◌+◌, List, [], ◌∷◌, ◌++◌, Some, length, map}
use Rattle.lk_ast.specs.declared.place.Loc.{Loc}
use Rattle.lk_ast.specs.declared.value.Value.{Value}
use Rattle.lk_ast.specs.declared.value.Value.TheVariants as value
use Rattle.lk_evaluation.specs.Run.{Goes, Run, and_then}
use Rattle.lk_ir.specs.Continuing.{only}
use Rattle.lk_ir.specs.Environments.{Env, bind, lookup_all}
use Rattle.lk_ir.specs.Law.{IsContAt}
use Rattle.lk_ir.specs.LetNormal.{Point, under}
use Rattle.lk_ir.specs.Tables.{form_at, names_of}
use Rattle.lk_ir.specs.declared.nodes.Cont.{Cont}
use Rattle.lk_ir.specs.declared.nodes.Form.{Form}
use Rattle.lk_ir.specs.declared.nodes.Kind.TheVariants as kind
use Rattle.lk_moves.specs.Frames.{Frame as Waiting, Part, Turn, continued, wound}
use Rattle.lk_moves.specs.Later.{Later}
use Rattle.lk_code.specs.Meaning.{does, goes_on, language, rest, stack_of}
use Rattle.lk_code.specs.Sound.{AreSound}
use Rattle.lk_code.specs.Tables.{cont_at, first_frame}
use Rattle.lk_code.specs.declared.tables.CodeTables.{CodeTables}
use Rattle.lk_code.specs.declared.tables.Frame.{Frame}
use Rattle.lk_code.specs.declared.tables.Home.{Home}

-- what a label does, and what frames do, only gets later
pub record AreLater (c : CodeTables) : Type 0 where
  pub label : (label : ℕ) (args : List Value) (place : Loc) (r : Run) → Later r.steps r (does c label args place r)
  pub frames : (frames : List Frame) (place : Loc) (v : Value) (r : Run) → Later r.steps r (rest c frames place v r)

abbrev pub LaterLaw : Type 0
LaterLaw = (c : CodeTables) → AreLater c

-- frames behind others go on where those end
abbrev pub FramesLaw : Type 0
FramesLaw = (c : CodeTables) (frames others : List Frame) (place : Loc) (v : Value) (r : Run) → rest c (frames ++ others) place v r ≡ and_then (rest c frames place v r) (rest c others place)

-- frames do what the waiting parts do that they stand for
abbrev pub StacksLaw : Type 0
StacksLaw = (c : CodeTables) (fs : List Frame) (stack : List (Waiting Point)) (place : Loc) → stack_of c place fs ≡ Some stack → (v : Value) (r : Run) → rest c fs place v r ≡ wound (language c) stack (Goes v r)

-- a frame with this number, which holds these values
abbrev pub frame : ℕ → List Value → Frame
frame number env = record { number = number; env = env }

-- The frame of a position of a node: from the values of earlier positions and those of what its continuation keeps, it goes on where
-- that part of the node has its value, as from all names of a point that was just entered.
abbrev pub ResumesLaw : Type 0
ResumesLaw = (c : CodeTables) → AreSound c → (h : Home) (cont : Cont) → cont_at c h ≡ Some cont → (names : Env) (done kept : List Value) → h.position ≡ length done
    → IsContAt c.forms c.conts h.node (length done) cont names → lookup_all names (names_of cont.keeps) ≡ Some kept
    → (place : Loc) (v : Value) (r : Run) → goes_on c place (frame (first_frame c + cont.order) (done ++ kept)) v r ≡ continued (language c) (Part (under names h.node) done place) v r

-- The frame of a `for` at its body: from the list made so far, the elements left and what is kept, it goes on with the bodies of these.
abbrev pub TurnsLaw : Type 0
TurnsLaw = (c : CodeTables) → AreSound c → (h : Home) (form : Form) (cont : Cont) (x body : ℕ) → form_at c.forms h.node ≡ Some form → form.kind ≡ kind.For x → form.tails ≡ body ∷ [] → h.position ≡ length form.parts → cont_at c h ≡ Some cont
    → (names : Env) (made left kept : List Value) → lookup_all names (names_of cont.keeps) ≡ Some kept
    → (place : Loc) (v : Value) (r : Run) → goes_on c place (frame (first_frame c + cont.order) (value.List made ∷ value.List left ∷ kept)) v r
    ≡ continued (language c) (Turn form.at (under (only (names_of cont.keeps) names) body) (map (λ w. under (bind x w (only (names_of cont.keeps) names)) body) left) place made) v r
