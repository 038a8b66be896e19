-- A program worked by hand: its functions and frames, and their lines in a listing.
use Rattle.std.proofs.Common.{◌≡◌, refl, ap, ◌∙◌, ℕ, ◌+◌, List, [], ◌∷◌, ◌++◌, Some, map}
use Rattle.std.specs.Fmt.{decimal, digits}
use Rattle.std.specs.List.{join_by}
use Rattle.std.specs.Prelude.{codes}
use Rattle.lk_ast.specs.declared.place.Loc.{Loc}
use Rattle.lk_ast.specs.declared.place.Loc.TheVariants.{Any, Client, Server}
use Rattle.lk_ir.proofs.Samples.{conts, labels, nest}
use Rattle.lk_ir.specs.Orders.{CountFrom, all_orders}
use Rattle.lk_ir.specs.declared.ir.CpsProgram.{CpsProgram}
use Rattle.lk_types.proofs.Unfold.{ground_function, ground_record, ground_string}
use Rattle.lk_types.specs.TypeText.{ground_text}
use Rattle.lk_types.specs.declared.ground.Ground.{Ground}
use Rattle.lk_types.specs.declared.ground.Ground.TheVariants as known
use Rattle.lk_types.specs.declared.ty.Effect.TheVariants as effect
use Rattle.lk_typing.specs.Types.{unit}
use Rattle.lk_code.specs.declared.infos.FrameInfo.{FrameInfo}
use Rattle.lk_code.specs.declared.infos.FunInfo.{FunInfo}
use Rattle.lk_code.specs.declared.infos.FunKind.TheVariants as fun
use Rattle.lk_code.specs.declared.tables.Home.{Home}
use Rattle.lk_defun.proofs.Units.{unit_is}
use Rattle.lk_defun.specs.Numbers.{frame_at, funs_from, homes_from, returns_from}

-- ---- fun log(s) client { print(s); s ^^ "!" } fun work(n) server { "<" ^^ log(n) ^^ ">" } fun main(a) client { work(a) }

abbrev called : Ground
called = known.Fun (known.Text ∷ []) (effect.Move ∷ effect.Print ∷ []) known.Text

abbrev types : List Ground
types = known.Text ∷ unit ∷ called ∷ called ∷ called ∷ []

abbrev program : CpsProgram
program = record { forms = nest types; conts = conts; envs = [] ∷ [] ∷ [] ∷ [] ∷ [] }

abbrev printer : FunInfo
printer = record { name = codes "print"; kind = fun.Print; place = Client; params = known.Text ∷ []; effects = effect.Print ∷ []; result = unit; env = [] }

-- an instance of a text
abbrev of_text : List ℕ → Loc → FunInfo
of_text name place = record { name = name; kind = fun.Top; place = place; params = known.Text ∷ []; effects = effect.Move ∷ effect.Print ∷ []; result = known.Text; env = [] }

abbrev funs : List FunInfo
funs = printer ∷ of_text (codes "main") Client ∷ of_text (codes "work") Server ∷ of_text (codes "log") Client ∷ []

pub funs_are : funs_from program 0 labels ≡ map Some funs
funs_are = simp (known.outs-Fun)

-- ---- frames

pub counted : CountFrom 0 (all_orders conts)
counted = (refl, (refl, (refl, tt)))

abbrev home : ℕ → ℕ → Home
home n position = record { node = n; position = position }

abbrev homes : List Home
homes = home 2 1 ∷ home 4 0 ∷ home 8 0 ∷ []

pub homes_are : homes_from 0 conts ≡ homes
homes_are = refl

abbrev returned : List ℕ → Loc → Ground → FrameInfo
returned owner place result = record { owner = owner; place = place; node = codes "return"; position = 0; env = []; hole = result; result = result }

pub returns_are : returns_from (nest types) 0 funs ≡ map Some (returned (codes "print") Client unit ∷ returned (codes "main") Client known.Text ∷ returned (codes "work") Server known.Text ∷ returned (codes "log") Client known.Text ∷ [])
returns_are = refl

abbrev frame : List ℕ → Loc → List ℕ → ℕ → Ground → List Ground → FrameInfo
frame owner place node position hole env = record { owner = owner; place = place; node = node; position = position; env = env; hole = hole; result = known.Text }

abbrev frames : List FrameInfo
frames =
    frame (codes "work") Server (codes "concat") 2 known.Text (known.Text ∷ [])
    ∷ frame (codes "work") Server (codes "concat") 1 known.Text []
    ∷ frame (codes "log") Client (codes "seq") 1 unit (known.Text ∷ [])
    ∷ []

pub frames_are : map (frame_at program funs) homes ≡ map Some frames
frames_are = refl

-- ---- lines

abbrev place_word : Loc → List ℕ
place_word Any = codes "any"
place_word Client = codes "client"
place_word Server = codes "server"

abbrev in_brackets : List Ground → List ℕ
in_brackets env = codes "[" ++ (join_by ground_text (codes ",") env ++ codes "]")

-- the first words of a line
abbrev headed : List ℕ → ℕ → Loc → List ℕ → List ℕ
headed what n place rest = what ++ (codes " " ++ (decimal n ++ (codes " " ++ (place_word place ++ (codes " " ++ rest)))))

-- fun N PLACE NAME : TYPE [ENV]
abbrev fun_line : ℕ → FunInfo → List ℕ
fun_line n i = headed (codes "fun") n i.place (i.name ++ (codes " : " ++ (ground_text (known.Fun i.params i.effects i.result) ++ (codes " " ++ in_brackets i.env))))

-- frame N PLACE NAME NODE POSITION : HOLE -> RESULT [ENV]
abbrev frame_line : ℕ → FrameInfo → List ℕ
frame_line n i = headed (codes "frame") n i.place (i.owner ++ (codes " " ++ (i.node ++ (codes " " ++ (decimal i.position ++ (codes " : " ++ (ground_text i.hole ++ (codes " -> " ++ (ground_text i.result ++ (codes " " ++ in_brackets i.env))))))))))

abbrev fun_lines : ℕ → List FunInfo → List (List ℕ)
fun_lines n [] = []
fun_lines n (i ∷ is) = fun_line n i ∷ fun_lines (n + 1) is

abbrev frame_lines : ℕ → List FrameInfo → List (List ℕ)
frame_lines n [] = []
frame_lines n (i ∷ is) = frame_line n i ∷ frame_lines (n + 1) is

unit_text : ground_text unit ≡ codes "()"
unit_text = ap ground_text unit_is ∙ ground_record []

printer_line : fun_line 0 printer ≡ codes "fun 0 client print : (String) {print}-> () []"
unfolding digits
printer_line = simp (ground_function, ground_string, unit_text)

main_line : fun_line 1 (of_text (codes "main") Client) ≡ codes "fun 1 client main : (String) {move,print}-> String []"
unfolding digits
main_line = simp (ground_function, ground_string)

work_line : fun_line 2 (of_text (codes "work") Server) ≡ codes "fun 2 server work : (String) {move,print}-> String []"
unfolding digits
work_line = simp (ground_function, ground_string)

log_line : fun_line 3 (of_text (codes "log") Client) ≡ codes "fun 3 client log : (String) {move,print}-> String []"
unfolding digits
log_line = simp (ground_function, ground_string)

second_line : frame_line 4 (frame (codes "work") Server (codes "concat") 2 known.Text (known.Text ∷ [])) ≡ codes "frame 4 server work concat 2 : String -> String [String]"
unfolding digits
second_line = simp (ground_string)

first_line : frame_line 5 (frame (codes "work") Server (codes "concat") 1 known.Text []) ≡ codes "frame 5 server work concat 1 : String -> String []"
unfolding digits
first_line = simp (ground_string)

next_line : frame_line 6 (frame (codes "log") Client (codes "seq") 1 unit (known.Text ∷ [])) ≡ codes "frame 6 client log seq 1 : () -> String [String]"
unfolding digits
next_line = simp (ground_string, unit_text)

-- the seven lines that a listing of this program has
pub lines_are : fun_lines 0 funs ++ frame_lines 4 frames ≡
    codes "fun 0 client print : (String) {print}-> () []"
    ∷ codes "fun 1 client main : (String) {move,print}-> String []"
    ∷ codes "fun 2 server work : (String) {move,print}-> String []"
    ∷ codes "fun 3 client log : (String) {move,print}-> String []"
    ∷ codes "frame 4 server work concat 2 : String -> String [String]"
    ∷ codes "frame 5 server work concat 1 : String -> String []"
    ∷ codes "frame 6 client log seq 1 : () -> String [String]"
    ∷ []
lines_are = simp (printer_line, main_line, work_line, log_line, second_line, first_line, next_line)
