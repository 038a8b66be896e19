use Rattle.std.proofs.Common.{◌∙◌, ap}
use Rattle.std.specs.FinSet as set
use Rattle.lk_scope.proofs.InScope.{names-remove}
use Rattle.lk_scope.proofs.names.Names.remove.Goals as goal

pub returns : goal.returns
returns c = names-remove c.self.inside.names c.remove.new.self c.args.name.now c.remove.ensures.updates ∙ ap (λ names. set.remove names c.args.name.now) c.self.view_is
