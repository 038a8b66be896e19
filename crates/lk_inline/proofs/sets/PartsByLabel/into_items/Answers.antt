use Rattle.std.proofs.Common.{◌++◌, map, sym, ap, ◌∙◌, append-nil}
use Rattle.lk_inline.proofs.SetMaps.{item, items-finite}
use Rattle.lk_inline.specs.Sets.{items_of}
use Rattle.lk_inline.proofs.sets.PartsByLabel.into_items.Goals as goal

pub returns : goal.returns
returns c =
    sym (append-nil c.loop-label.items)
    ∙ ap (λ es. c.loop-label.items ++ map item es) (sym c.in-None.ensures.steps.0)
    ∙ c.loop-label.invariant
    ∙ ap (map item) c.into_iter-label-iterator.ensures.into_iter_gives.0
    ∙ items-finite c.self.inside.parts.entries c.into_iter-label-iterator.ensures.into_iter_gives.5
    ∙ ap items_of c.self.view_is
