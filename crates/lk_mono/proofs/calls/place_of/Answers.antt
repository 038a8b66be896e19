use Rattle.std.proofs.Common.{◌≡◌, ◌<◌, Some, ap, arith, length, slice_get, subst, sym, ◌∙◌}
use Rattle.std.proofs.lemmas.Option.{none-some, same_Some}
use Rattle.lk_mono.proofs.Lookups.{position-within}
use Rattle.lk_mono.proofs.Queueing.{listed_place, same_use}
use Rattle.lk_mono.specs.Queues.{as_list}
use Rattle.lk_types.specs.Each.{OneOf}
use Rattle.lk_mono.proofs.calls.place_of.Goals as goal

pub returns-in-Some-clause-place : goal.returns-in-Some-clause-place
returns-in-Some-clause-place c u name type there =
    let (n, found, at) = listed_place c.args.grounds.now c.distinct.ensures _ _ _ c.requires.found c.args.listed.now c.requires.listed (subst (λ v. OneOf (λ other. other ≡ v) (as_list c.args.listed.now)) (sym (same_use u _ _ name type)) there) in
    subst (λ k. slice_get (as_list c.args.listed.now) k ≡ Some u) (same_Some n c.in-Some.place (sym found ∙ sym c.place.ensures ∙ c.in-Some.is)) (at ∙ ap Some (same_use u _ _ name type))

pub returns-in-Some-clause-within : goal.returns-in-Some-clause-within
returns-in-Some-clause-within c =
    let h : c.in-Some.place < length c.args.listed.now = position-within _ c.args.listed.now c.in-Some.place (sym c.place.ensures ∙ c.in-Some.is) in
    omega (arith, h)

pub returns-in-None-clause-place : goal.returns-in-None-clause-place
returns-in-None-clause-place c u name type there =
    let (n, found, at) = listed_place c.args.grounds.now c.distinct.ensures _ _ _ c.requires.found c.args.listed.now c.requires.listed (subst (λ v. OneOf (λ other. other ≡ v) (as_list c.args.listed.now)) (sym (same_use u _ _ name type)) there) in
    absurd (none-some n (sym c.in-None.is ∙ c.place.ensures ∙ found))
