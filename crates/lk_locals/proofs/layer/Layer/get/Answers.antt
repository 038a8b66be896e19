use Rattle.std.proofs.Common.{◌∙◌, sym, ap}
use Rattle.lk_locals.specs.Names.{lookup}
use Rattle.lk_locals.proofs.Over.{lookup-names_in}
use Rattle.lk_locals.proofs.layer.Layer.get.Goals as goal

pub returns : goal.returns
returns c = c.get.ensures.value ∙ sym (lookup-names_in c.self.inside.values c.args.name.now) ∙ ap (λ names. lookup names c.args.name.now) c.self.view_is
