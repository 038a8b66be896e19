use Rattle.std.proofs.Common.{◌∙◌, sym, ap, drop, map}
use Rattle.std.specs.Prelude.{reverse}
use Rattle.lk_locals.specs.Names.{bind_each}
use Rattle.lk_locals.proofs.Over.{unnamed}
use Rattle.lk_locals.proofs.locals.Locals.bind_each.Goals as goal

pub returns-in_default : goal.returns-in_default
returns-in_default c =
    sym (unnamed c.loop-name.locals (map (λ name. name.now) (drop c.loop-name.name-index c.args.names.now)))
    ∙ ap (λ left. bind_each c.loop-name.locals (map (λ name. name.now) (drop c.loop-name.name-index c.args.names.now)) (reverse left)) (sym c.in_default.ensures.0)
    ∙ c.loop-name.invariant
