-- What a place needs of code that it runs.
use Rattle.std.specs.Prelude.{◌≡◌, ℕ, ◌≤◌, Bool, true, false, Option, Some, None, IsSome, IsSomeAnd}
use Rattle.lk_ast.specs.declared.place.Loc.{Loc}
use Rattle.lk_ast.specs.declared.place.Loc.TheVariants.{Client, Server, Any}
use Rattle.lk_ir.specs.Tables.{body_at, form_at}
use Rattle.lk_code.specs.Tables.{block_at, cont_at, first_frame, frame_info, fun_info, home_of}
use Rattle.lk_code.specs.declared.infos.FrameInfo.{FrameInfo}
use Rattle.lk_code.specs.declared.infos.FunInfo.{FunInfo}
use Rattle.lk_code.specs.declared.infos.FunKind.{FunKind}
use Rattle.lk_code.specs.declared.infos.FunKind.TheVariants as fun
use Rattle.lk_code.specs.declared.tables.BlockCode.{BlockCode}
use Rattle.lk_code.specs.declared.tables.BlockCode.TheVariants as code
use Rattle.lk_code.specs.declared.tables.Contents.{Contents}

-- what has this mark runs at this place
abbrev pub is_at : Loc → Loc → Bool
is_at Any place = true
is_at Client Client = true
is_at Server Server = true
is_at mark place = false

-- what a label of this kind runs at the server
abbrev pub is_code_of : FunKind → BlockCode → Bool
is_code_of fun.Query (code.Select sql) = true
is_code_of fun.TableRead (code.Select sql) = true
is_code_of fun.Insert (code.Insert def) = true
is_code_of fun.Update (code.Update def change) = true
is_code_of fun.Delete (code.Delete def change) = true
is_code_of kind other = false

abbrev pub is_code : FunKind → Option BlockCode → Bool
is_code kind None = false
is_code kind (Some block) = is_code_of kind block

-- what this label runs is there: a body, or what reads or changes tables
abbrev pub HasCode : Contents → ℕ → FunKind → Type 0
HasCode c label fun.Print = Unit {0}
HasCode c label fun.Top = IsSome (body_at c.tables.forms label)
HasCode c label fun.Lambda = IsSome (body_at c.tables.forms label)
HasCode c label kind = is_code kind (block_at c label) ≡ true

-- the node with this number stands in a body that is there
abbrev pub IsInBody : Contents → ℕ → Type 0
IsInBody c n = IsSomeAnd (form_at c.tables.forms n) (λ form. IsSome (body_at c.tables.forms form.within))

-- the frame is that of a position of such a node
abbrev pub HasHome : Contents → ℕ → Type 0
HasHome c number = IsSomeAnd (home_of c.tables number) (λ home. IsSome (cont_at c.tables home) × IsInBody c home.node)

abbrev pub LabelsRun : Contents → Loc → Type 0
LabelsRun c place = (label : ℕ) (i : FunInfo) → fun_info c.tables label ≡ Some i → is_at i.place place ≡ true → HasCode c label i.kind

abbrev pub FramesRun : Contents → Loc → Type 0
FramesRun c place = (number : ℕ) (i : FrameInfo) → frame_info c.tables number ≡ Some i → first_frame c.tables ≤ number → is_at i.place place ≡ true → HasHome c number

-- all is there that the place runs
pub record RunsAt (c : Contents) (place : Loc) : Type 0 where
  pub labels : LabelsRun c place
  pub frames : FramesRun c place
