use Rattle.std.proofs.Common.{subst, sym}
use Rattle.lk_compile.proofs.Whole.{are_whole}
use Rattle.lk_cps.specs.Conts.{AreEnvs, AreTyped}
use Rattle.lk_ir.specs.Uses.{AreNamed}
use Rattle.lk_lower.specs.Lowering.{AreForms}
use Rattle.lk_lowered.specs.Typing.{IsContinued, IsTypedGround}
use Rattle.lk_compile.proofs.tables.code_tables.Goals as goal

pub defun-requires : goal.defun-requires
defun-requires c =
    let g = c.args.ground.now in
    let p = g.program.now in
    let program = c.in_ok-program.program in
    let has = c.in_ok-program.ensures in
    let source : IsTypedGround p g = record { bound = c.requires.source.1.0; instances = c.requires.source.2.instances } in
    let forms : AreForms g program.forms = subst (AreForms g) (sym has.forms) c.in_ok-table.ensures.lowered in
    let conts : IsContinued program = record {
      named = subst (λ f. AreNamed f program.conts) (sym has.forms) has.named;
      types = subst (λ f. AreTyped f program.conts) (sym has.forms) has.types;
      envs = subst (λ f. AreEnvs f program.envs) (sym has.forms) has.envs;
    } in
    record { whole = are_whole p c.requires.source.0 g program c.requires.source.1.0 c.requires.source.2 forms conts has.order (c.lowered_laws.ensures.typed p g program source forms conts) }
