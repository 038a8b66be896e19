use Rattle.std.proofs.Common.{◌∙◌, ap}
use Rattle.lk_locals.specs.Names.{bind}
use Rattle.lk_locals.proofs.Over.{names_in-bind}
use Rattle.lk_locals.proofs.layer.Layer.insert.Goals as goal

pub returns : goal.returns
returns c = names_in-bind c.self.inside.values c.insert.new.self c.args.name.now c.args.value c.in_ok-insert.ensures.updates ∙ ap (bind c.args.name.now c.args.value) c.self.view_is
