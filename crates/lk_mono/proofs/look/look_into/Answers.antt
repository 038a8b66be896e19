use Rattle.std.proofs.Common.{◌≡◌, ◌<◌, ap, drop, length, map, subst, sym, take, ◌∙◌}
use Rattle.lk_ground_types.specs.Bound.{grounding_in}
use Rattle.lk_ground_types.specs.Functions.{effects_in}
use Rattle.lk_ground_types.specs.Grounds.{at}
use Rattle.lk_outline.specs.Shown.{shown}
use Rattle.lk_types.specs.Each.{Each}
use Rattle.lk_typing.specs.Law.{Become}
use Rattle.lk_mono.specs.Looks.{first_beyond, found_in}
use Rattle.lk_mono.proofs.Looking.{all_looked, become_all}
use Rattle.lk_mono.proofs.NumbersGrown.{same_type, same_types, still_within}
use Rattle.lk_mono.proofs.SameEverywhere.{become_same}
use Rattle.lk_mono.proofs.look.look_into.Goals as goal

pub returns-clause-looked : goal.returns-clause-looked
returns-clause-looked c τ ts least is become =
    let before = c.args.grounds.now in
    let table = c.ground_all.new.grounds in
    let after = c.uses_at.new.grounds in
    let numbers = c.in_ok-numbers.numbers in
    let same : Become (grounding_in before c.in_ok-bindings.bindings) c.args.member.now.types ts = become_same c.in_ok-bindings.ensures.least least (c.in_ok-bindings.ensures.same τ is) c.ground_type_laws.ensures.agree _ ts become in
    let made : map (at table) numbers ≡ ts = c.in_ok-numbers.ensures.made ts (become_all (grounding_in before c.in_ok-bindings.bindings) c.args.member.now.types ts same) in
    let found = c.in_ok-uses.ensures.found ts (record { made = ap (map (at table)) c.as_slice-3.ensures ∙ made; within = subst (Each (λ n. n < length table)) (sym c.as_slice-3.ensures) c.in_ok-numbers.ensures.within }) in
    let own = c.as_slice-4.ensures ∙ c.in_ok-own.ensures ∙ c.effects_of.ensures ∙ ap effects_in (c.get.ensures ∙ same_type before table c.ground_all.ensures.more c.args.number c.requires) in
    all_looked after (effects_in (at before c.args.number)) ts c.args.member.now.sites _ _ _ _ _ c.first_large.result
    (same_types table after c.uses_at.ensures.more numbers c.in_ok-numbers.ensures.within ∙ made)
    (c.first_large.ensures ∙ ap first_beyond (ap (map (at table)) c.as_slice-2.ensures ∙ made))
    (c.split.ensures.first ∙ ap (take c.first_large.result) c.as_slice.ensures) (c.split.ensures.rest ∙ ap (drop c.first_large.result) c.as_slice.ensures)
    (found ∙ ap (λ own. found_in own ts (shown c.split.result.0.now)) own) c.first_place-large.ensures

pub returns-clause-within : goal.returns-clause-within
returns-clause-within c = still_within c.ground_all.new.grounds c.uses_at.new.grounds c.uses_at.ensures.more c.in_ok-numbers.numbers c.in_ok-numbers.ensures.within
