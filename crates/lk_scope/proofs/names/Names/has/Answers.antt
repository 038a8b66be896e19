use Rattle.std.proofs.Common.{◌∙◌, sym, ap}
use Rattle.std.specs.FinSet as set
use Rattle.lk_scope.proofs.InScope.{contains-names}
use Rattle.lk_scope.proofs.names.Names.has.Goals as goal

pub returns : goal.returns
returns c = c.contains.ensures ∙ sym (contains-names c.self.inside.names c.args.name.now) ∙ ap (λ names. set.contains names c.args.name.now) c.self.view_is
