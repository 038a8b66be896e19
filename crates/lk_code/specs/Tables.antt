-- Look-ups in the tables of code.
use Rattle.std.specs.Option.{option_and_then, option_flatten, option_map, unwrap_or}
use Rattle.std.specs.Prelude.{ℕ, ◌-◌, Bool, true, false, Option, None, length, nat_lt, if◌then◌else◌, slice_get}
use Rattle.lk_ast.specs.declared.declaration.Program.{Program}
use Rattle.lk_ir.specs.Continuing.{conts_at}
use Rattle.lk_ir.specs.Tables.{form_at, label_at}
use Rattle.lk_ir.specs.declared.nodes.Cont.{Cont}
use Rattle.lk_ir.specs.declared.nodes.Form.{Form}
use Rattle.lk_ir.specs.declared.nodes.Forms.{Forms}
use Rattle.lk_ir.specs.declared.nodes.LabelForm.{LabelForm}
use Rattle.lk_types.specs.declared.ground.Ground.{Ground}
use Rattle.lk_code.specs.declared.infos.FrameInfo.{FrameInfo}
use Rattle.lk_code.specs.declared.infos.FunInfo.{FunInfo}
use Rattle.lk_code.specs.declared.infos.FunKind.{FunKind}
use Rattle.lk_code.specs.declared.infos.FunKind.TheVariants.{Top, Lambda, Query, TableRead, Insert, Update, Delete}
use Rattle.lk_code.specs.declared.tables.BlockCode.{BlockCode}
use Rattle.lk_code.specs.declared.tables.CodeTables.{CodeTables}
use Rattle.lk_code.specs.declared.tables.Contents.{Contents}
use Rattle.lk_code.specs.declared.tables.Home.{Home}
use Rattle.lk_code.specs.declared.tables.Origin.{Origin}

-- ---- labels

abbrev pub fun_info : CodeTables → ℕ → Option FunInfo
fun_info c label = slice_get c.funs label

-- an instance or a lambda: it has a body, and may be a value
abbrev pub is_function : FunKind → Bool
is_function Top = true
is_function Lambda = true
is_function other = false

-- what reads or changes tables
abbrev pub is_block : FunKind → Bool
is_block Query = true
is_block TableRead = true
is_block Insert = true
is_block Update = true
is_block Delete = true
is_block other = false

-- the node of what has this label, if it has one
abbrev pub node_of : Forms → ℕ → Option ℕ
node_of f label = option_and_then (λ (l : LabelForm). l.node) (label_at f label)

-- the byte at which what has this label begins in the text
abbrev pub site_of : Forms → ℕ → ℕ
site_of f label = unwrap_or (option_map (λ (form : Form). form.at.start) (option_and_then (form_at f) (node_of f label))) 0

-- ---- frames

-- the first frame that isn't the return of a label
abbrev pub first_frame : CodeTables → ℕ
first_frame c = length c.funs

abbrev pub frame_info : CodeTables → ℕ → Option FrameInfo
frame_info c number = slice_get c.frames number

-- the home of a frame, if it is no return
abbrev pub home_of : CodeTables → ℕ → Option Home
home_of c number = if nat_lt number (first_frame c) then None else slice_get c.homes (number - first_frame c)

-- the continuation of a position, if it has one
abbrev pub cont_at : CodeTables → Home → Option Cont
cont_at c h = option_flatten (slice_get (conts_at c.conts h.node) h.position)

-- ---- types

abbrev pub type_at : Forms → ℕ → Option Ground
type_at f ty = slice_get f.types ty

-- the type of the node with this number
abbrev pub node_type : Forms → ℕ → Option Ground
node_type f n = option_and_then (λ (form : Form). type_at f form.ty) (form_at f n)

-- ---- what code holds

-- what this label runs at the server, if it is there
abbrev pub block_at : Contents → ℕ → Option BlockCode
block_at c label = option_flatten (slice_get c.blocks label)

abbrev pub program_in : Contents → Option Program
program_in c = option_map (λ (origin : Origin). origin.program) c.origin
