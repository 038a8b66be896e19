use Rattle.std.proofs.Common.{◌∙◌, ap}
use Rattle.std.specs.FinMap as finite
use Rattle.lk_operators.proofs.Ascending.{len-finite}
use Rattle.lk_operators.proofs.entries.Entries.len.Goals as goal

pub returns : goal.returns
returns c = c.len.ensures.len ∙ len-finite c.self.inside.values.entries c.len.ensures.ordered ∙ ap finite.len c.self.view_is
