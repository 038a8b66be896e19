-- Which code is that of a program.
use Rattle.std.specs.Prelude.{◌≡◌, List, Some}
use Rattle.lk_ast.specs.Tables.{table_defs}
use Rattle.lk_ast.specs.declared.declaration.Program.{Program}
use Rattle.lk_ast.specs.declared.place.Loc.TheVariants.{Client, Server}
use Rattle.lk_code.specs.Running.{RunsAt}
use Rattle.lk_code.specs.Tables.{program_in}
use Rattle.lk_code.specs.TypedLaw.{DoesAsLabels}
use Rattle.lk_code.specs.declared.tables.CodeTables.{CodeTables}
use Rattle.lk_code.specs.declared.tables.Contents.{Contents}
use Rattle.lk_defun.specs.Numbers.{AreTables}
use Rattle.lk_ground.specs.Language.{instance}
use Rattle.lk_ground.specs.declared.program.GroundFun.{GroundFun}
use Rattle.lk_ground.specs.declared.program.GroundProgram.{GroundProgram}
use Rattle.lk_infer.specs.declared.typed.Typed.{Typed}
use Rattle.lk_ir.specs.Law.{KeepsPoints}
use Rattle.lk_ir.specs.Orders.{CountFrom, all_orders}
use Rattle.lk_ir.specs.declared.ir.CpsProgram.{CpsProgram}
use Rattle.lk_ir.specs.declared.nodes.Forms.{Forms}
use Rattle.lk_lower.specs.Lowering.{AreForms}
use Rattle.lk_lowered.specs.Law.{HasCalls, HasSession}
use Rattle.lk_lowered.specs.Typing.{IsContinued}
use Rattle.lk_translate.specs.declared.translated.Translated.{Translated}
use Rattle.lk_compile.specs.Accepted.{AreQueries, IsGround, IsTyped}
use Rattle.lk_compile.specs.Blocks.{AreRun}
use Rattle.lk_compile.specs.Sessions.{ArePlacesApart, HasSessions}
use Rattle.lk_compile.specs.Sites.{AreOfSites}
use Rattle.lk_compile.specs.declared.compiling.Parts.{Parts}

-- ---- what each pass below types keeps

-- `lower`: the ground program as one table of nodes. It has the sessions of the ground program, and a call enters in it what the call goes
-- to there.
pub record IsLowered (p : Program) (g : GroundProgram) (f : Forms) : Type 0 where
  pub forms : AreForms g f
  pub sessions : ArePlacesApart p → (main : GroundFun) → instance g 0 ≡ Some main → HasSession g f main
  pub calls : ArePlacesApart p → HasCalls g f

-- `cps`: continuations that keep just what is used behind them, counted one by one. With them each point comes to the same.
pub record HasContinuations (c : CpsProgram) : Type 0 where
  pub conts : IsContinued c
  pub order : CountFrom 0 (all_orders c.conts)
  pub points : KeepsPoints c.forms c.conts

-- `defun`: labels and frames by numbers. What a call enters does what its label does.
pub record IsNumbered (cps : CpsProgram) (c : CodeTables) : Type 0 where
  pub numbers : AreTables cps c
  pub calls : DoesAsLabels c

-- ---- code

-- what labels run at the server, over the tables of the program
pub record IsFilled (p : Program) (queries : List Translated) (c : Contents) : Type 0 where
  pub defs : c.defs ≡ table_defs p
  pub blocks : AreRun c.tables.forms.tables c.defs queries c.tables.funs c.blocks
  pub program : program_in c ≡ Some p

-- The code of an accepted program, pass by pass: types, the ground program, its queries as SQL, its table of nodes, continuations, numbers.
-- Together: sessions of the code do what the program's do, and each label that reads or changes tables runs the SQL of its own site. All is
-- there that either place runs.
pub record IsCodeOf (p : Program) (c : Contents) : Type 0 where
  pub typed : Typed
  pub is_typed : IsTyped p typed
  pub ground : GroundProgram
  pub is_ground : IsGround p typed ground
  pub queries : List Translated
  pub are_queries : AreQueries p ground queries
  pub cps : CpsProgram
  pub lowered : IsLowered p ground cps.forms
  pub continued : HasContinuations cps
  pub numbered : IsNumbered cps c.tables
  pub sessions : HasSessions p ground c.tables
  pub filled : IsFilled p queries c
  pub sites : AreOfSites p ground c
  pub client : RunsAt c Client
  pub server : RunsAt c Server

-- ---- while it is made

-- a ground program is that of a typed program
abbrev pub IsSource : GroundProgram → Type 0
IsSource g = (typed : Typed) × IsTyped g.program.now typed × IsGround g.program.now typed g

-- The tables that numbers give to the table of a ground program, with its continuations.
pub record AreTablesOf (g : GroundProgram) (c : CodeTables) : Type 0 where
  pub cps : CpsProgram
  pub forms : AreForms g cps.forms
  pub conts : IsContinued cps
  pub order : CountFrom 0 (all_orders cps.conts)
  pub numbers : AreTables cps c

-- what of the code is made of a ground program with this SQL
pub record AreGroundParts (g : GroundProgram) (queries : List Translated) (parts : Parts) : Type 0 where
  pub tables : AreTablesOf g parts.code.tables
  pub defs : parts.defs ≡ table_defs g.program.now
  pub blocks : AreRun parts.code.tables.forms.tables parts.defs queries parts.code.tables.funs parts.blocks

-- and of a typed program
pub record AreParts (p : Program) (typed : Typed) (parts : Parts) : Type 0 where
  pub ground : GroundProgram
  pub is_ground : IsGround p typed ground
  pub queries : List Translated
  pub are_queries : AreQueries p ground queries
  pub are : AreGroundParts ground queries parts
