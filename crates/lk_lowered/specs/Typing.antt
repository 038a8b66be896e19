-- The law of types: a table that is made of a ground program, with its continuations, is typed.
use Rattle.lk_ast.specs.declared.declaration.Program.{Program}
use Rattle.lk_code.specs.Sound.{IsTypedProgram}
use Rattle.lk_cps.specs.Conts.{AreEnvs, AreTyped}
use Rattle.lk_ground.specs.declared.program.GroundProgram.{GroundProgram}
use Rattle.lk_ir.specs.TypedUses.{UseCaptured}
use Rattle.lk_ir.specs.Uses.{AreNamed}
use Rattle.lk_ir.specs.declared.ir.CpsProgram.{CpsProgram}
use Rattle.lk_ir.specs.declared.nodes.Forms.{Forms}
use Rattle.lk_lower.specs.Lowering.{AreForms}
use Rattle.lk_mono.specs.Instanced.{HasInstances}
use Rattle.lk_names.specs.Programs.{IsBound}

-- The ground program has typed instances of a program with bound names.
pub record IsTypedGround (p : Program) (g : GroundProgram) : Type 0 where
  pub bound : IsBound p
  pub instances : HasInstances p g

-- Its continuations keep just what is used behind them, each name with the type of a use, and so do lambdas.
pub record IsContinued (c : CpsProgram) : Type 0 where
  pub named : AreNamed c.forms c.conts
  pub types : AreTyped c.forms c.conts
  pub envs : AreEnvs c.forms c.envs

-- The lambdas in the table of a ground program use what they capture.
abbrev pub CapturedLaw : Type 0
CapturedLaw = (p : Program) (g : GroundProgram) (f : Forms) → IsTypedGround p g → AreForms g f → UseCaptured f

-- The table of a ground program with its continuations is typed.
abbrev pub TypedLaw : Type 0
TypedLaw = (p : Program) (g : GroundProgram) (c : CpsProgram) → IsTypedGround p g → AreForms g c.forms → IsContinued c → IsTypedProgram c
