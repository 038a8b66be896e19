use Rattle.std.proofs.Common.{length, refl, sym, subst}
use Rattle.std.proofs.lemmas.Result.{err_from_is_err_and}
use Rattle.lk_mono.proofs.BothLists.{both, empty_sound, first_sound, full_mains, gathered_sound, large_helpers, large_mains, too_many_gathered, too_many_helpers}
use Rattle.lk_mono.proofs.NumbersGrown.{bodies_still, uses_still}
use Rattle.lk_mono.proofs.Walking.{handed_on}
use Rattle.lk_mono.specs.Looks.{AreNumbered}
use Rattle.lk_mono.specs.Queues.{AreUsesNumbered}
use Rattle.lk_mono.specs.declared.body.Body.{Body}
use Rattle.lk_types.specs.Each.{Each}
use Rattle.lk_mono.specs.Held.{AreHeld}
use Rattle.lk_mono.specs.Instances.{uses_of}
use Rattle.lk_mono.specs.Steps.{Gathered}
use Rattle.lk_mono.proofs.listing.list_instances.Goals as goal

pub returns-in_err-main_use-clause-large : goal.returns-in_err-main_use-clause-large
returns-in_err-main_use-clause-large c at is = absurd (c.in_err-main_use.ensures.large at (handed_on _ _ _ (err_from_is_err_and c.from_residual.result c.from_residual.ensures.1) is))

pub walk_all-requires-clause-sound : goal.walk_all-requires-clause-sound
walk_all-requires-clause-sound c = (0, (first_sound c.args.source c.in_ok-main_use.field-0 c.in_ok-mains.mains c.in_ok-mains.ensures.listed c.in_ok-mains.ensures.room c.in_ok-main_use.ensures.sound))

pub returns-in_err-main_bodies-clause-too_many : goal.returns-in_err-main_bodies-clause-too_many
returns-in_err-main_bodies-clause-too_many c is =
    full_mains c.args.source c.in_ok-main_use.field-0 c.in_ok-main_use.ensures.main c.in_ok-mains.mains c.in_ok-mains.ensures.listed
    (c.in_err-main_bodies.ensures.full (handed_on _ _ _ (err_from_is_err_and c.from_residual-in_err-main_bodies.result c.from_residual-in_err-main_bodies.ensures.1) is) 0 (first_sound c.args.source c.in_ok-main_use.field-0 c.in_ok-mains.mains c.in_ok-mains.ensures.listed c.in_ok-mains.ensures.room c.in_ok-main_use.ensures.sound))

pub returns-in_err-main_bodies-clause-large : goal.returns-in_err-main_bodies-clause-large
returns-in_err-main_bodies-clause-large c at is =
    large_mains c.args.source c.in_ok-main_use.field-0 c.in_ok-main_use.ensures.main c.in_ok-mains.mains c.in_ok-mains.ensures.listed at
    (c.in_err-main_bodies.ensures.large at (handed_on _ _ _ (err_from_is_err_and c.from_residual-in_err-main_bodies.result c.from_residual-in_err-main_bodies.ensures.1) is) 0 (first_sound c.args.source c.in_ok-main_use.field-0 c.in_ok-mains.mains c.in_ok-mains.ensures.listed c.in_ok-mains.ensures.room c.in_ok-main_use.ensures.sound))

pub returns-then-not-branch-clause-too_many : goal.returns-then-not-branch-clause-too_many
returns-then-not-branch-clause-too_many c is =
    let w = c.in_ok-main_bodies.ensures.walked 0 (first_sound c.args.source c.in_ok-main_use.field-0 c.in_ok-mains.mains c.in_ok-mains.ensures.listed c.in_ok-mains.ensures.room c.in_ok-main_use.ensures.sound) in
    let g = c.in_ok-gather.ensures.gathered c.args.source (length (uses_of w.bodies)) w.bodies c.requires.source
    (empty_sound c.args.source c.walk_all.new.queue (record { listed = c.new.result; room = c.walk_all.new.queue.room }) w.bodies w.uses c.new.ensures refl w.sound)
    (subst (λ held. AreHeld c.args.source held w.bodies) (sym c.as_slice.ensures) w.are_held) in
    too_many_gathered c.args.source c.in_ok-main_use.field-0 c.in_ok-main_use.ensures.main c.in_ok-mains.mains c.walk_all.new.queue c.in_ok-mains.ensures.listed _ w _ _ c.new.ensures
    (subst (Gathered c.args.source (length (uses_of w.bodies)) w.bodies _ c.gather.new.queue) c.if-not-branch.true g)

pub walk_all-requires-2-clause-sound : goal.walk_all-requires-2-clause-sound
walk_all-requires-2-clause-sound c =
    let w = c.in_ok-main_bodies.ensures.walked 0 (first_sound c.args.source c.in_ok-main_use.field-0 c.in_ok-mains.mains c.in_ok-mains.ensures.listed c.in_ok-mains.ensures.room c.in_ok-main_use.ensures.sound) in
    let g = c.in_ok-gather.ensures.gathered c.args.source (length (uses_of w.bodies)) w.bodies c.requires.source
    (empty_sound c.args.source c.walk_all.new.queue (record { listed = c.new.result; room = c.walk_all.new.queue.room }) w.bodies w.uses c.new.ensures refl w.sound)
    (subst (λ held. AreHeld c.args.source held w.bodies) (sym c.as_slice.ensures) w.are_held) in (
      length (uses_of w.bodies),
      gathered_sound c.args.source c.in_ok-main_use.field-0 c.in_ok-main_use.ensures.main c.in_ok-mains.mains c.walk_all.new.queue c.in_ok-mains.ensures.listed _ w _ _ c.new.ensures
          (subst (Gathered c.args.source (length (uses_of w.bodies)) w.bodies _ c.gather.new.queue) c.if-not-branch.false g),
    )

pub returns-in_err-helper_bodies-clause-too_many : goal.returns-in_err-helper_bodies-clause-too_many
returns-in_err-helper_bodies-clause-too_many c is =
    let w = c.in_ok-main_bodies.ensures.walked 0 (first_sound c.args.source c.in_ok-main_use.field-0 c.in_ok-mains.mains c.in_ok-mains.ensures.listed c.in_ok-mains.ensures.room c.in_ok-main_use.ensures.sound) in
    let g = c.in_ok-gather.ensures.gathered c.args.source (length (uses_of w.bodies)) w.bodies c.requires.source
    (empty_sound c.args.source c.walk_all.new.queue (record { listed = c.new.result; room = c.walk_all.new.queue.room }) w.bodies w.uses c.new.ensures refl w.sound)
    (subst (λ held. AreHeld c.args.source held w.bodies) (sym c.as_slice.ensures) w.are_held) in
    let all = subst (Gathered c.args.source (length (uses_of w.bodies)) w.bodies _ c.gather.new.queue) c.if-not-branch.false g in
    let sound = gathered_sound c.args.source c.in_ok-main_use.field-0 c.in_ok-main_use.ensures.main c.in_ok-mains.mains c.walk_all.new.queue c.in_ok-mains.ensures.listed _ w _ _ c.new.ensures all in
    too_many_helpers c.args.source c.in_ok-main_use.field-0 c.in_ok-main_use.ensures.main c.in_ok-mains.mains c.walk_all.new.queue c.in_ok-mains.ensures.listed _ w _ _ c.new.ensures all
    (c.in_err-helper_bodies.ensures.full (handed_on _ _ _ (err_from_is_err_and c.from_residual-in_err-helper_bodies.result c.from_residual-in_err-helper_bodies.ensures.1) is) (length (uses_of w.bodies)) sound)

pub returns-in_err-helper_bodies-clause-large : goal.returns-in_err-helper_bodies-clause-large
returns-in_err-helper_bodies-clause-large c at is =
    let w = c.in_ok-main_bodies.ensures.walked 0 (first_sound c.args.source c.in_ok-main_use.field-0 c.in_ok-mains.mains c.in_ok-mains.ensures.listed c.in_ok-mains.ensures.room c.in_ok-main_use.ensures.sound) in
    let g = c.in_ok-gather.ensures.gathered c.args.source (length (uses_of w.bodies)) w.bodies c.requires.source
    (empty_sound c.args.source c.walk_all.new.queue (record { listed = c.new.result; room = c.walk_all.new.queue.room }) w.bodies w.uses c.new.ensures refl w.sound)
    (subst (λ held. AreHeld c.args.source held w.bodies) (sym c.as_slice.ensures) w.are_held) in
    let all = subst (Gathered c.args.source (length (uses_of w.bodies)) w.bodies _ c.gather.new.queue) c.if-not-branch.false g in
    let sound = gathered_sound c.args.source c.in_ok-main_use.field-0 c.in_ok-main_use.ensures.main c.in_ok-mains.mains c.walk_all.new.queue c.in_ok-mains.ensures.listed _ w _ _ c.new.ensures all in
    large_helpers c.args.source c.in_ok-main_use.field-0 c.in_ok-main_use.ensures.main c.in_ok-mains.mains c.walk_all.new.queue c.in_ok-mains.ensures.listed _ w _ _ c.new.ensures all at
    (c.in_err-helper_bodies.ensures.large at (handed_on _ _ _ (err_from_is_err_and c.from_residual-in_err-helper_bodies.result c.from_residual-in_err-helper_bodies.ensures.1) is) (length (uses_of w.bodies)) sound)

pub returns-clause-found : goal.returns-clause-found
returns-clause-found c =
    let w = c.in_ok-main_bodies.ensures.walked 0 (first_sound c.args.source c.in_ok-main_use.field-0 c.in_ok-mains.mains c.in_ok-mains.ensures.listed c.in_ok-mains.ensures.room c.in_ok-main_use.ensures.sound) in
    let g = c.in_ok-gather.ensures.gathered c.args.source (length (uses_of w.bodies)) w.bodies c.requires.source
    (empty_sound c.args.source c.walk_all.new.queue (record { listed = c.new.result; room = c.walk_all.new.queue.room }) w.bodies w.uses c.new.ensures refl w.sound)
    (subst (λ held. AreHeld c.args.source held w.bodies) (sym c.as_slice.ensures) w.are_held) in
    let all = subst (Gathered c.args.source (length (uses_of w.bodies)) w.bodies _ c.gather.new.queue) c.if-not-branch.false g in
    let sound = gathered_sound c.args.source c.in_ok-main_use.field-0 c.in_ok-main_use.ensures.main c.in_ok-mains.mains c.walk_all.new.queue c.in_ok-mains.ensures.listed _ w _ _ c.new.ensures all in
    both c.args.source c.in_ok-main_use.field-0 c.in_ok-main_use.ensures.main c.in_ok-mains.mains c.walk_all.new.queue c.in_ok-mains.ensures.listed _ w _ _ c.new.ensures all _ _
    (c.in_ok-helper_bodies.ensures.walked (length (uses_of w.bodies)) sound)

pub walk_all-requires-clause-numbered : goal.walk_all-requires-clause-numbered
walk_all-requires-clause-numbered c = subst (AreUsesNumbered c.main_use.new.grounds) (sym c.in_ok-mains.ensures.listed) (c.in_ok-main_use.ensures.numbered, tt)

pub gather-requires-clause-numbered : goal.gather-requires-clause-numbered
gather-requires-clause-numbered c = subst (AreUsesNumbered c.walk_all.new.grounds) (sym c.new.ensures) tt

pub gather-requires-clause-uses : goal.gather-requires-clause-uses
gather-requires-clause-uses c = subst (Each (λ (b : Body). AreNumbered c.walk_all.new.grounds b.uses)) (sym c.as_slice.ensures) c.in_ok-main_bodies.ensures.uses

pub walk_all-requires-2-clause-numbered : goal.walk_all-requires-2-clause-numbered
walk_all-requires-2-clause-numbered c = c.in_ok-gather.ensures.listed

pub returns-clause-mains : goal.returns-clause-mains
returns-clause-mains c = (
  uses_still _ _ c.walk_all-2.ensures.more _ c.in_ok-main_bodies.ensures.listed,
  bodies_still _ _ c.walk_all-2.ensures.more _ c.in_ok-main_bodies.ensures.uses,
)

pub returns-clause-helpers : goal.returns-clause-helpers
returns-clause-helpers c = (c.in_ok-helper_bodies.ensures.listed, c.in_ok-helper_bodies.ensures.uses)
