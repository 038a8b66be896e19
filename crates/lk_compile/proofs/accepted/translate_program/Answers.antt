use Rattle.std.proofs.Common.{refl}
use Rattle.std.proofs.lemmas.Result.{err_from_is_err_and}
use Rattle.lk_compile.proofs.Grounds.{are_queries, not_ground}
use Rattle.lk_compile.specs.Accepted.{IsGround}
use Rattle.lk_compile.proofs.accepted.translate_program.Goals as goal

pub returns-in_err-ground-clause-refused : goal.returns-in_err-ground-clause-refused
returns-in_err-ground-clause-refused c =
    let why = not_ground c.args.program.now c.args.typed.now _ c.in_err-ground.field-0.0 refl c.in_err-ground.ensures.too_many c.in_err-ground.ensures.too_large c.in_err-ground.ensures.shape in
    let error = err_from_is_err_and c.from_residual.result c.from_residual.ensures.1 in
    rw (error.1, error.2) why

pub returns-clause-made : goal.returns-clause-made
returns-clause-made c =
    let is : IsGround c.args.program.now c.args.typed.now c.in_ok-ground.ground = record { grounded = c.in_ok-ground.ensures.grounded; keeps = c.in_ok-ground.ensures.keeps; events = c.in_ok-ground.ensures.events; plain = c.in_ok-ground.ensures.plain; instances = c.in_ok-ground.ensures.instances } in
    (c.in_ok-ground.ground, is, are_queries c.translate_laws.ensures.translated c.args.program.now c.args.typed.now c.in_ok-ground.ground c.requires.typed c.requires.columns is c.in_ok-translate.field-0 c.in_ok-translate.ensures.translated)
