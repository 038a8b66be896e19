use Rattle.std.proofs.Common.{subst, ◌∙◌}
use Rattle.std.specs.Prelude.{IfOk}
use Rattle.lk_arena.specs.Kinds.{OfTypes}
use Rattle.lk_unify.proofs.load_sides.load_side.Goals as goal
use Rattle.lk_unify.specs.Loading.{type_meaning, Loaded}

pub returns : goal.returns
returns c =
    subst (λ t. IfOk c.load_levels.result (λ answer. Loaded c.args.loader.now c.load_levels.new.loader OfTypes (type_meaning t) answer)) (c.parts-table.ensures.is ∙ c.in_ok-one.ensures) c.load_levels.ensures
