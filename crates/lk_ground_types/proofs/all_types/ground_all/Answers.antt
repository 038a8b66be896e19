use Rattle.std.proofs.lemmas.Result.{IfOk-weaker}
use Rattle.lk_ground_types.proofs.LevelLoops.{roots_counted, roots_each, roots_found, roots_placed}
use Rattle.lk_ground_types.proofs.all_types.ground_all.Goals as goal

pub ground_levels-requires-clause-below : goal.ground_levels-requires-clause-below
ground_levels-requires-clause-below c = c.parts.ensures.table.below

pub returns-clause-made : goal.returns-clause-made
returns-clause-made c =
    IfOk-weaker c.numbers_at.result _ _
    (λ made made_are found is. roots_found c.args.bindings.now c.args.grounds.now c.ground_levels.new.grounds c.parts.result.0.now c.in_ok-numbers.numbers c.in_ok-numbers.ensures.made c.parts.result.1.now c.parts.ensures.table.roots_below
    c.args.types.now c.parts.ensures.types c.as_slice.result.now c.as_slice.ensures made made_are found is)
    c.numbers_at.ensures

pub returns-clause-each : goal.returns-clause-each
returns-clause-each c =
    IfOk-weaker c.numbers_at.result _ _
    (λ made made_are i ty t there is. roots_each c.args.bindings.now c.args.grounds.now c.ground_levels.new.grounds c.parts.result.0.now c.in_ok-numbers.numbers c.in_ok-numbers.ensures.made c.parts.result.1.now c.parts.ensures.table.roots_below
    c.args.types.now c.parts.ensures.types c.as_slice.result.now c.as_slice.ensures made made_are i ty t there is)
    c.numbers_at.ensures

pub returns-clause-count : goal.returns-clause-count
returns-clause-count c =
    IfOk-weaker c.numbers_at.result _ _ (λ made made_are. roots_counted c.parts.result.0.now c.parts.result.1.now c.args.types.now c.parts.ensures.types c.as_slice.result.now made made_are) c.numbers_at.ensures

pub returns-clause-within : goal.returns-clause-within
returns-clause-within c =
    IfOk-weaker c.numbers_at.result _ _
    (λ made made_are. roots_placed c.args.bindings.now c.args.grounds.now c.ground_levels.new.grounds c.parts.result.0.now c.in_ok-numbers.numbers c.in_ok-numbers.ensures.made c.parts.result.1.now c.parts.ensures.table.roots_below
    c.as_slice.result.now c.as_slice.ensures made made_are)
    c.numbers_at.ensures
