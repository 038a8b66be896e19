use Rattle.std.proofs.Common.{◌∙◌, ap₂}
use Rattle.std.specs.FinMap as finite
use Rattle.lk_operators.proofs.Ascending.{finite-insert}
use Rattle.lk_inline.proofs.sets.PartsByLabel.insert.Goals as goal

pub returns : goal.returns
returns c =
    finite-insert c.self.inside.parts.entries c.insert.new.self.entries c.in_ok-label.label c.args.part c.in_ok-insert.ensures.was_ordered c.in_ok-insert.ensures.ordered c.in_ok-insert.ensures.entries
    ∙ ap₂ (λ entries label. finite.insert entries label c.args.part) c.self.view_is c.in_ok-label.ensures.ok
