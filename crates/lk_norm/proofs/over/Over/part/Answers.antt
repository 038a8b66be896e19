use Rattle.std.proofs.Common.{◌≡◌, Some, slice_get, ap, sym, ◌∙◌, subst}
use Rattle.std.specs.Option.{option_copied}
use Rattle.lk_query.specs.Order.{AreOrdered}
use Rattle.lk_norm.proofs.Parts.{norms-at}
use Rattle.lk_norm.proofs.over.Over.part.Goals as goal

pub returns-in-Some : goal.returns-in-Some
returns-in-Some c =
    let same = c.as_slice.ensures.parts ∙ c.self.view_is in
    let found : slice_get c.args.self.now c.args.at ≡ Some c.in-Some.part.now = sym (ap (λ parts. slice_get parts c.args.at) same) ∙ sym c.item.ensures ∙ ap option_copied c.in-Some.is in
    norms-at c.args.self.now c.args.at c.in-Some.part.now (subst AreOrdered c.self.view_is c.as_slice.ensures.ordered) (sym found)
