use Rattle.std.proofs.Common.{[], subst, sym}
use Rattle.std.proofs.lemmas.List.{take_all}
use Rattle.lk_ground_types.proofs.LevelLoops.{levels_ground, none_ground, numbers_so_far, place_below, within_still}
use Rattle.lk_ground_types.specs.Becoming.{AreGround}
use Rattle.lk_ground_types.proofs.all_types.ground_levels.Goals as goal

pub loop-level-init : goal.loop-level-init
loop-level-init c = subst (AreGround c.args.bindings.now c.args.grounds.now c.args.grounds.now []) (sym c.new-numbers.ensures) (none_ground c.args.bindings.now c.args.grounds.now)

pub number_made-requires-clause-within : goal.number_made-requires-clause-within
number_made-requires-clause-within c = within_still c.args.bindings.now _ _ _ _ c.loop-level.invariant c.requires.within

pub number_made-requires-clause-numbers : goal.number_made-requires-clause-numbers
number_made-requires-clause-numbers c = numbers_so_far _ _ _ _ _ c.loop-level.invariant _ c.as_slice.ensures

pub number_made-requires-clause-below : goal.number_made-requires-clause-below
number_made-requires-clause-below c =
    place_below _ _ _ c.args.levels.now c.loop-level.level-index _ c.level-item.result c.loop-level.numbers c.loop-level.invariant _ c.as_slice.ensures c.requires.below c.loop-level-test.true c.level-item.is

pub loop-level-preserved : goal.loop-level-preserved
loop-level-preserved c =
    levels_ground c.args.bindings.now c.args.grounds.now c.loop-level.grounds c.number_made.new.grounds c.args.levels.now c.loop-level.level-index _ c.level-item.result c.loop-level.numbers c.as_slice.result.now _ _
    c.loop-level.invariant c.requires.within c.loop-level-test.true c.level-item.is c.as_slice.ensures
    c.number_made.ensures.more c.in_ok-number.ensures.within c.in_ok-number.ensures.stands c.in_ok-push.ensures.ok

pub returns-clause-made : goal.returns-clause-made
returns-clause-made c =
    subst (λ levels. AreGround c.args.bindings.now c.args.grounds.now c.loop-level.grounds levels c.loop-level.numbers) (take_all c.loop-level.level-index c.args.levels.now c.loop-level-test.false) c.loop-level.invariant

pub returns-clause-more : goal.returns-clause-more
returns-clause-more c = c.loop-level.invariant.grown
