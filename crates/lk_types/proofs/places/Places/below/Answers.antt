use Rattle.std.proofs.Common.{ap, reverse, subst, sym, ◌∙◌, ◌∷◌, []}
use Rattle.std.proofs.lemmas.List.{get_or_read, reverse-append}
use Rattle.lk_types.proofs.Gathered.{gathered_first, gathered_last, gathered_more, none_left, place_within, room_falls, IsGathered}
use Rattle.lk_types.proofs.places.Places.below.Goals as goal
use Rattle.lk_types.specs.Levels.{parts_of}
use Rattle.lk_types.specs.Places.{with_keys}
use Rattle.lk_types.specs.declared.levels.Level.TheVariants as level

pub loop-place-init : goal.loop-place-init
loop-place-init c =
    subst (λ items. IsGathered c.args.levels.now c.args.roots.now c.add_all.new.wanted.keys (reverse items)) (sym c.new-items.ensures.items)
    (gathered_first c.args.levels.now c.args.roots.now c.add_all.new.wanted.keys (c.in_ok-add_all.ensures ∙ ap (λ keys. with_keys keys c.args.roots.now) c.new-wanted.ensures.empty))

pub bounds-levels-place : goal.bounds-levels-place
bounds-levels-place c = place_within c.args.levels.now c.args.roots.now c.loop-place.wanted.keys (reverse c.loop-place.items.items) c.pop_last.new.self.keys c.in-Some.place c.requires c.loop-place.invariant c.in-Some.ensures.removal

pub loop-place-smaller : goal.loop-place-smaller
loop-place-smaller c =
    let within = place_within c.args.levels.now c.args.roots.now c.loop-place.wanted.keys (reverse c.loop-place.items.items) c.pop_last.new.self.keys c.in-Some.place c.requires c.loop-place.invariant c.in-Some.ensures.removal in
    room_falls c.args.levels.now c.args.roots.now c.loop-place.wanted.keys (reverse c.loop-place.items.items) c.pop_last.new.self.keys c.in-Some.place c.requires c.loop-place.invariant c.in-Some.ensures.removal c.add_parts.new.wanted.keys c.in-Some.ensures.all_below
    (c.in_ok-add_parts.ensures ∙ ap (λ l. with_keys c.pop_last.new.self.keys (parts_of l)) (get_or_read c.args.levels.now c.in-Some.place c.index-levels-place.result within c.index-levels-place.is level.Int))

pub loop-place-preserved : goal.loop-place-preserved
loop-place-preserved c =
    let within = place_within c.args.levels.now c.args.roots.now c.loop-place.wanted.keys (reverse c.loop-place.items.items) c.pop_last.new.self.keys c.in-Some.place c.requires c.loop-place.invariant c.in-Some.ensures.removal in
    subst (IsGathered c.args.levels.now c.args.roots.now c.add_parts.new.wanted.keys) (sym (ap reverse c.in_ok-push.ensures.items ∙ reverse-append c.loop-place.items.items (c.in-Some.place ∷ [])))
    (gathered_more c.args.levels.now c.args.roots.now c.loop-place.wanted.keys (reverse c.loop-place.items.items) c.pop_last.new.self.keys c.in-Some.place c.requires c.loop-place.invariant c.in-Some.ensures.removal c.add_parts.new.wanted.keys c.in-Some.ensures.all_below
    (c.in_ok-add_parts.ensures ∙ ap (λ l. with_keys c.pop_last.new.self.keys (parts_of l)) (get_or_read c.args.levels.now c.in-Some.place c.index-levels-place.result within c.index-levels-place.is level.Int)))

pub invariant_of-result : goal.invariant_of-result
invariant_of-result c =
    let none = none_left c.loop-place.wanted.keys c.in_default.ensures.variant.1 in
    record { rising = (gathered_last c.args.levels.now c.args.roots.now c.loop-place.wanted.keys (reverse c.loop-place.items.items) c.reverse.new.self.items c.loop-place.invariant none c.reverse.ensures.items).rising }

pub returns : goal.returns
returns c =
    let none = none_left c.loop-place.wanted.keys c.in_default.ensures.variant.1 in
    gathered_last c.args.levels.now c.args.roots.now c.loop-place.wanted.keys (reverse c.loop-place.items.items) c.reverse.new.self.items c.loop-place.invariant none c.reverse.ensures.items
