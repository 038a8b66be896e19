use Rattle.std.proofs.Common.{◌≡◌, ◌<◌, ◌∙◌, Some, ap, length, map, sym, subst}
use Rattle.lk_ground_types.specs.Grounds.{at}
use Rattle.lk_types.specs.Each.{Each}
use Rattle.lk_mono.proofs.NumbersGrown.{uses_still}
use Rattle.lk_mono.proofs.Queueing.{listed_number}
use Rattle.lk_mono.proofs.Stepping.{has_member, is_full, is_large, is_step, looks_at}
use Rattle.lk_mono.specs.Looks.{AreNumbered}
use Rattle.lk_mono.proofs.body.walk.Goals as goal

pub unreachable-requires : goal.unreachable-requires
unreachable-requires c = has_member _ c.requires.source _ _ c.requires.sound.1 _ _ c.at-next.ensures _ c.find.ensures c.in_default.is

pub look_into-requires : goal.look_into-requires
look_into-requires c = (listed_number c.args.grounds.now c.args.queue.now.listed _ _ c.requires.numbered c.at-next.ensures).within

pub add_uses-requires-clause-listed : goal.add_uses-requires-clause-listed
add_uses-requires-clause-listed c = uses_still c.args.grounds.now c.look_into.new.grounds c.in_ok-looked.ensures.more _ c.requires.numbered

pub returns-then-not-branch-clause-full : goal.returns-then-not-branch-clause-full
returns-then-not-branch-clause-full c same others sound =
    is_full _ c.requires.source _ _ sound _ _ c.at-next.ensures _ c.find.ensures c.look_into.new.grounds c.principal_laws.ensures.body c.outline_laws.ensures.outlined c.in-Some.member c.in-Some.is c.in_ok-looked.looked
    (looks_at c.look_into.new.grounds c.in-Some.member.now _ _ c.in_ok-looked.looked (listed_number c.args.grounds.now c.args.queue.now.listed _ _ c.requires.numbered c.at-next.ensures).is c.in_ok-looked.ensures.looked)
    _ _ c.as_slice.ensures _ _ c.in_ok-add_uses.ensures.added c.if-not-branch.true

pub returns-in-Some-large-clause-large : goal.returns-in-Some-large-clause-large
returns-in-Some-large-clause-large c at same others sound =
    let here : c.in-Some-large.at ≡ at = cc in
    is_large _ c.requires.source _ _ sound _ _ c.at-next.ensures _ c.find.ensures c.look_into.new.grounds c.principal_laws.ensures.body c.outline_laws.ensures.outlined c.in-Some.member c.in-Some.is c.in_ok-looked.looked
    (looks_at c.look_into.new.grounds c.in-Some.member.now _ _ c.in_ok-looked.looked (listed_number c.args.grounds.now c.args.queue.now.listed _ _ c.requires.numbered c.at-next.ensures).is c.in_ok-looked.ensures.looked)
    _ _ c.as_slice.ensures _ _ c.in_ok-add_uses.ensures.added c.if-not-branch.false at (c.in-Some-large.is ∙ ap Some here)

pub returns-clause-walked : goal.returns-clause-walked
returns-clause-walked c others sound =
    is_step _ c.requires.source _ _ sound _ _ c.at-next.ensures _ c.find.ensures c.look_into.new.grounds c.principal_laws.ensures.body c.outline_laws.ensures.outlined c.in-Some.member c.in-Some.is c.in_ok-looked.looked
    (looks_at c.look_into.new.grounds c.in-Some.member.now _ _ c.in_ok-looked.looked (listed_number c.args.grounds.now c.args.queue.now.listed _ _ c.requires.numbered c.at-next.ensures).is c.in_ok-looked.ensures.looked)
    _ _ c.as_slice.ensures _ _ c.in_ok-add_uses.ensures.added c.if-not-branch.false c.principal_laws.ensures.used _ c.in-None.is (c.in_ok-shared_types-in-None.ensures ∙ ap (map (at c.look_into.new.grounds)) c.as_slice-in-None.ensures)

pub add_uses-requires-clause-uses : goal.add_uses-requires-clause-uses
add_uses-requires-clause-uses c = subst (AreNumbered c.look_into.new.grounds) (sym c.as_slice.ensures) c.in_ok-looked.ensures.numbered

pub shared_types-requires : goal.shared_types-requires
shared_types-requires c = subst (Each (λ n. n < length c.look_into.new.grounds)) (sym c.as_slice-in-None.ensures) c.in_ok-looked.ensures.within

pub returns-clause-uses : goal.returns-clause-uses
returns-clause-uses c = c.in_ok-looked.ensures.numbered
