use Rattle.std.proofs.Common.{◌≡◌, ◌<◌, ◌≤◌, Some, slice_get, length, refl, subst, sym, ap, ◌∙◌}
use Rattle.std.proofs.lemmas.Option.{slice_get_read}
use Rattle.lk_ground_types.proofs.Entering.{type_read, types_long}
use Rattle.lk_ground_types.specs.Grounds.{ground_made}
use Rattle.lk_ground_types.proofs.grounds.Grounds.level.Goals as goal

pub returns-in-Some-clause-made : goal.returns-in-Some-clause-made
returns-in-Some-clause-made c =
    let there = subst (λ es. slice_get es c.args.number ≡ Some c.in-Some.entry.now) c.as_slice.ensures.value (slice_get_read c.as_slice.result.now (length c.as_slice.result.now) c.args.number c.in-Some.entry.now refl c.in-Some.ensures.lookup.3.0 c.in-Some.ensures.lookup.1) in
    ap (λ ts. ground_made ts c.in-Some.entry.now.level) (sym c.self.view_is) ∙ sym (c.self.invariant.each c.args.number c.in-Some.entry.now there).made
    ∙ type_read c.self.inside.entries.items _ c.args.number c.in-Some.entry.now c.self.view_is there

pub returns-in-Some-clause-below : goal.returns-in-Some-clause-below
returns-in-Some-clause-below c =
    (c.self.invariant.each c.args.number c.in-Some.entry.now (subst (λ es. slice_get es c.args.number ≡ Some c.in-Some.entry.now) c.as_slice.ensures.value (slice_get_read c.as_slice.result.now (length c.as_slice.result.now) c.args.number c.in-Some.entry.now refl c.in-Some.ensures.lookup.3.0 c.in-Some.ensures.lookup.1))).below

pub returns-in-Some-clause-within : goal.returns-in-Some-clause-within
returns-in-Some-clause-within c =
    subst (λ k. c.args.number < k) (ap length c.as_slice.ensures.value ∙ sym (types_long c.self.inside.entries.items) ∙ ap length c.self.view_is) c.in-Some.ensures.lookup.3.0

pub returns-in-None-clause-none : goal.returns-in-None-clause-none
returns-in-None-clause-none c =
    subst (λ k. k ≤ c.args.number) (ap length c.as_slice.ensures.value ∙ sym (types_long c.self.inside.entries.items) ∙ ap length c.self.view_is) c.in-None.ensures.lookup.3
