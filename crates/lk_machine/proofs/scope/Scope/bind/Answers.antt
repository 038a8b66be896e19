use Rattle.std.proofs.Common.{◌∙◌, ap}
use Rattle.lk_ir.specs.Environments.{bind}
use Rattle.lk_machine.proofs.Scopes.{put_there}
use Rattle.lk_machine.proofs.scope.Scope.bind.Goals as goal

pub returns : goal.returns
returns c = put_there c.self.inside.values c.insert.new.self c.args.name c.args.value c.in_ok-insert.ensures.updates ∙ ap (bind c.args.name c.args.value) c.self.view_is
