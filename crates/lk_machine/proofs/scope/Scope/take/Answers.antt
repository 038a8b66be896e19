use Rattle.std.proofs.Common.{◌∙◌, sym, ap}
use Rattle.std.specs.FinMap as finite
use Rattle.lk_ir.specs.Environments.{lookup}
use Rattle.lk_machine.proofs.Scopes.{lookup-names_in, taken_out}
use Rattle.lk_machine.proofs.scope.Scope.take.Goals as goal

pub returns-clause-value : goal.returns-clause-value
returns-clause-value c = c.remove.ensures.value ∙ sym (lookup-names_in c.self.inside.values c.args.name) ∙ ap (λ names. lookup names c.args.name) c.self.view_is

pub returns-clause-left : goal.returns-clause-left
returns-clause-left c = taken_out c.self.inside.values c.remove.new.self c.args.name c.remove.ensures.updates ∙ ap (λ names. finite.remove names c.args.name) c.self.view_is
