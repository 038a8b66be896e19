use Rattle.std.proofs.Common.{get_or, ap, ◌∙◌}
use Rattle.lk_unify.proofs.LevelsMade.{function_made}
use Rattle.lk_unify.proofs.levels.function_level.Goals as goal

pub returns : goal.returns
returns c =
    function_made c.args.arena.now c.args.numbers.now c.args.places.now c.args.fuel c.args.parts.now c.in_ok-effects.effects c.from_vec.result (get_or c.args.places.now c.class_of.result 0)
    c.requires.parts c.in_ok-effects.ensures (c.from_vec.ensures ∙ c.in_ok-params.ensures) (ap (λ n. get_or c.args.places.now n 0) c.class_of.ensures)
