use Rattle.std.proofs.Common.{◌∙◌, sym, ap}
use Rattle.lk_ir.specs.Environments.{lookup}
use Rattle.lk_machine.proofs.Scopes.{lookup-names_in}
use Rattle.lk_machine.proofs.scope.Scope.get.Goals as goal

pub returns : goal.returns
returns c = c.get.ensures.value ∙ sym (lookup-names_in c.self.inside.values c.args.name) ∙ ap (λ names. lookup names c.args.name) c.self.view_is
