use Rattle.std.proofs.Common.{refl, subst, sym}
use Rattle.std.proofs.lemmas.Result.{err_from_is_err_and}
use Rattle.lk_compile.proofs.Grounds.{are_queries, not_ground}
use Rattle.lk_compile.specs.Accepted.{IsGround, IsTyped}
use Rattle.lk_compile.proofs.compiling.typed_parts.Goals as goal

pub returns-in_err-ground-clause-refused : goal.returns-in_err-ground-clause-refused
returns-in_err-ground-clause-refused c =
    let why = not_ground c.args.program.now c.args.typed.now _ c.in_err-ground.field-0.0 refl c.in_err-ground.ensures.too_many c.in_err-ground.ensures.too_large c.in_err-ground.ensures.shape in
    let error = err_from_is_err_and c.from_residual.result c.from_residual.ensures.1 in
    rw (error.1, error.2) why

pub ground_parts-requires : goal.ground_parts-requires
ground_parts-requires c =
    let p = c.args.program.now in
    let g = c.in_ok-ground.ground in
    let typed = c.args.typed.now in
    let same = c.in_ok-ground.ensures.grounded.program in
    let is : IsGround p typed g = record { grounded = c.in_ok-ground.ensures.grounded; keeps = c.in_ok-ground.ensures.keeps; events = c.in_ok-ground.ensures.events; plain = c.in_ok-ground.ensures.plain; instances = c.in_ok-ground.ensures.instances } in
    record { source = (typed, subst (λ q. IsTyped q typed) (sym same) c.requires.typed, subst (λ q. IsGround q typed g) (sym same) is) }

pub returns-clause-parts : goal.returns-clause-parts
returns-clause-parts c =
    let p = c.args.program.now in
    let g = c.in_ok-ground.ground in
    let typed = c.args.typed.now in
    let is : IsGround p typed g = record { grounded = c.in_ok-ground.ensures.grounded; keeps = c.in_ok-ground.ensures.keeps; events = c.in_ok-ground.ensures.events; plain = c.in_ok-ground.ensures.plain; instances = c.in_ok-ground.ensures.instances } in
    record {
      ground = g;
      is_ground = is;
      queries = c.in_ok-queries.queries;
      are_queries = are_queries c.translate_laws.ensures.translated p typed g c.requires.typed c.requires.columns is c.in_ok-queries.queries c.in_ok-queries.ensures.translated;
      are = c.in_ok-ground_parts.ensures;
    }
