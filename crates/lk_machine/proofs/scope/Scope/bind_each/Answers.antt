use Rattle.std.proofs.Common.{◌∙◌, sym, ap, drop}
use Rattle.std.specs.Prelude.{reverse}
use Rattle.lk_ir.specs.Environments.{bind_each}
use Rattle.lk_machine.proofs.Scopes.{unnamed}
use Rattle.lk_machine.proofs.scope.Scope.bind_each.Goals as goal

pub returns-in_default : goal.returns-in_default
returns-in_default c =
    sym (unnamed c.loop-name.scope (drop c.loop-name.name-index c.args.names.now))
    ∙ ap (λ left. bind_each c.loop-name.scope (drop c.loop-name.name-index c.args.names.now) (reverse left)) (sym c.in_default.ensures.0)
    ∙ c.loop-name.invariant
