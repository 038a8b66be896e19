use Rattle.std.proofs.Common.{refl, subst, sym, Some, ap, ◌∙◌}
use Rattle.std.specs.BTreeMap.{Updates}
use Rattle.std.specs.List.{position}
use Rattle.lk_mono.proofs.Lookups.{one_more}
use Rattle.lk_mono.specs.Places.{FindsUses, is_use, key_order}
use Rattle.lk_mono.proofs.listed.Listed.push.Goals as goal

pub invariant_of-self-in-Ok : goal.invariant_of-self-in-Ok
invariant_of-self-in-Ok c =
    let u = c.args.usage in
    let places = c.self.inside.places in
    let uses = c.self.inside.uses in
    subst (FindsUses c.insert.new.self) (sym c.in_ok-push.ensures.ok)
    (one_more places c.insert.new.self uses u (c.as_str.result, u.number) c.as_str.ensures refl (ap (position (is_use u.name.now u.number)) c.self.view_is ∙ c.requires) c.self.invariant
    (subst (λ n. Updates key_order places c.insert.new.self (c.as_str.result, u.number) (Some n)) c.len-place.ensures c.in-Ok.ensures.updates))
