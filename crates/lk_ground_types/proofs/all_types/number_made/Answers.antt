use Rattle.std.proofs.Common.{length, sym, subst}
use Rattle.std.proofs.lemmas.Result.{IfOk-weaker}
use Rattle.lk_ground_types.proofs.LevelLoops.{added_stands, nothing_more}
use Rattle.lk_ground_types.proofs.Standing.{level_below, variable_below, variable_stands}
use Rattle.lk_ground_types.specs.Grounds.{IsBelow}
use Rattle.lk_ground_types.proofs.all_types.number_made.Goals as goal

pub add-requires : goal.add-requires
add-requires c =
    subst (IsBelow (length c.args.grounds.now)) (sym c.in_ok-made-in-None.ensures) (level_below (length c.args.grounds.now) c.args.bindings.now c.args.numbers.now c.requires.within c.requires.numbers c.args.level.now c.requires.below)

pub returns-in-Some-clause-stands : goal.returns-in-Some-clause-stands
returns-in-Some-clause-stands c types stand = variable_stands c.args.bindings.now c.args.grounds.now types c.args.numbers.now stand c.args.level.now c.in-Some.number (sym c.in-Some.ensures)

pub returns-in-Some-clause-within : goal.returns-in-Some-clause-within
returns-in-Some-clause-within c = variable_below (length c.args.grounds.now) c.args.bindings.now c.args.numbers.now c.requires.within c.requires.numbers c.args.level.now c.in-Some.number (sym c.in-Some.ensures)

pub returns-in-Some-clause-more : goal.returns-in-Some-clause-more
returns-in-Some-clause-more c = nothing_more c.args.grounds.now

pub returns-in_ok-made-in-None-clause-stands : goal.returns-in_ok-made-in-None-clause-stands
returns-in_ok-made-in-None-clause-stands c =
    IfOk-weaker c.add.result _ _
    (λ number made types stand. added_stands c.args.bindings.now c.args.grounds.now c.add.new.self types c.args.numbers.now stand c.args.level.now _ number c.requires.below (sym c.in-None.ensures) c.in_ok-made-in-None.ensures made)
    c.add.ensures.made
