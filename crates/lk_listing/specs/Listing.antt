-- What is printed of code: a line for each label by its number, and then one for each frame that is no return.
use Rattle.std.specs.List.{join_by}
use Rattle.std.specs.Prelude.{ℕ, ◌+◌, List, [], ◌∷◌, ◌++◌, None, codes, decimal, drop}
use Rattle.lk_ast.specs.declared.place.Loc.{Loc}
use Rattle.lk_ast.specs.declared.place.Loc.TheVariants.{Client, Server, Any}
use Rattle.lk_code.specs.Tables.{first_frame}
use Rattle.lk_code.specs.declared.infos.FrameInfo.{FrameInfo}
use Rattle.lk_code.specs.declared.infos.FunInfo.{FunInfo}
use Rattle.lk_code.specs.declared.tables.CodeTables.{CodeTables}
use Rattle.lk_types.specs.TypeText.{effects_text, function_text, ground_text}
use Rattle.lk_types.specs.declared.ground.Ground.{Ground}
use Rattle.lk_report.specs.Lines.{line}

abbrev pub place_word : Loc → List ℕ
place_word Client = codes "client"
place_word Server = codes "server"
place_word Any = codes "any"

-- `T,T`
abbrev pub types_text : List Ground → List ℕ
types_text types = join_by ground_text (codes ",") types

-- `[T,T]`, the types of the values that are kept
abbrev pub env_text : List Ground → List ℕ
env_text types = codes "[" ++ (types_text types ++ codes "]")

-- `(T,T) {e,e}-> T`
abbrev pub signature_text : FunInfo → List ℕ
signature_text i = function_text (types_text i.params) (effects_text i.effects None) (ground_text i.result)

-- `fun N PLACE NAME : TYPE [ENV]`
abbrev pub fun_line : ℕ → FunInfo → List ℕ
fun_line n i = line (codes "fun" ∷ decimal n ∷ place_word i.place ∷ i.name ∷ codes ":" ∷ signature_text i ∷ env_text i.env ∷ [])

-- `PLACE NAME NODE POSITION`, where it waits
abbrev pub home_text : FrameInfo → List ℕ
home_text i = place_word i.place ++ (codes " " ++ (i.owner ++ (codes " " ++ (i.node ++ (codes " " ++ decimal i.position)))))

-- `HOLE -> RESULT`, the types of what is waited for and of what it comes to
abbrev pub step_text : FrameInfo → List ℕ
step_text i = ground_text i.hole ++ (codes " -> " ++ ground_text i.result)

-- `frame N PLACE NAME NODE POSITION : HOLE -> RESULT [ENV]`
abbrev pub frame_line : ℕ → FrameInfo → List ℕ
frame_line n i = line (codes "frame" ∷ decimal n ∷ home_text i ∷ codes ":" ∷ step_text i ∷ env_text i.env ∷ [])

-- those of labels from this number on
abbrev pub fun_lines : ℕ → List FunInfo → List ℕ
fun_lines n [] = []
fun_lines n (i ∷ is) = fun_line n i ++ fun_lines (n + 1) is

-- those of frames from this number on
abbrev pub frame_lines : ℕ → List FrameInfo → List ℕ
frame_lines n [] = []
frame_lines n (i ∷ is) = frame_line n i ++ frame_lines (n + 1) is

abbrev pub label_lines : CodeTables → List ℕ
label_lines c = fun_lines 0 c.funs ++ frame_lines (first_frame c) (drop (first_frame c) c.frames)
