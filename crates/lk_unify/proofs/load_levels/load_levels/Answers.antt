use Rattle.std.proofs.Common.{◌∙◌, ◌+◌, Some, ap, length, subst, sym, take}
use Rattle.lk_types.specs.Levels.{at, built, made}
use Rattle.lk_arena.specs.Kinds.{OfTypes}
use Rattle.lk_arena.specs.Shapes.{AllBelow}
use Rattle.lk_unify.proofs.LevelMeanings.{found_node, level_below, level_more, level_never, levels_loaded, root_there}
use Rattle.lk_unify.proofs.LoadLevelParts.{on_none, on_some}
use Rattle.lk_unify.proofs.LoadLists.{loads_no_types}
use Rattle.lk_unify.proofs.load_levels.load_levels.Goals as goal
use Rattle.lk_unify.specs.LevelLoading.{LoadedOn}
use Rattle.lk_unify.specs.Loading.{type_meaning, types_meaning, Loads, LoadsAll}

pub loop-level-init : goal.loop-level-init
loop-level-init c = (ap length c.new-nodes.ensures, loads_no_types c.args.loader.now c.new-nodes.result c.requires.whole c.new-nodes.ensures)

pub load_level-requires-clause-whole : goal.load_level-requires-clause-whole
load_level-requires-clause-whole c = c.loop-level.invariant.1.to.whole

pub load_level-requires-clause-parts : goal.load_level-requires-clause-parts
load_level-requires-clause-parts c =
    level_below c.args.levels.now c.loop-level.level-index c.level-item.result c.loop-level-test.true c.level-item.is c.args.root c.as_slice.result.now c.requires.thin (ap length c.as_slice.ensures ∙ c.loop-level.invariant.0)

pub load_level-requires-clause-nodes : goal.load_level-requires-clause-nodes
load_level-requires-clause-nodes c = subst (AllBelow (length c.loop-level.loader.arena.shapes)) (sym c.as_slice.ensures) c.loop-level.invariant.1.below

pub returns-in_default : goal.returns-in_default
returns-in_default c =
    let before = built (take c.loop-level.level-index c.args.levels.now) in
    level_never c.args.levels.now c.loop-level.level-index c.level-item.result c.loop-level-test.true c.level-item.is c.args.root c.requires.thin
    (on_none c.loop-level.loader c.load_level.new.loader before c.as_slice.result.now OfTypes (type_meaning (made before c.level-item.result)) c.in_ok-node.field-0 c.in_default.not-Some
    (c.in_ok-node.ensures before (ap length c.as_slice.ensures ∙ c.loop-level.invariant.0)))

pub loop-level-preserved : goal.loop-level-preserved
loop-level-preserved c =
    let before = built (take c.loop-level.level-index c.args.levels.now) in
    let on = on_some c.loop-level.loader c.load_level.new.loader before c.as_slice.result.now OfTypes (type_meaning (made before c.level-item.result)) c.in_ok-node.field-0 c.in-Some.node c.in-Some.is
    (c.in_ok-node.ensures before (ap length c.as_slice.ensures ∙ c.loop-level.invariant.0)) in
    let more = level_more c.args.levels.now c.loop-level.level-index c.level-item.result c.loop-level-test.true c.level-item.is c.args.loader.now c.loop-level.loader c.load_level.new.loader c.loop-level.nodes c.in-Some.node c.loop-level.invariant
    (subst (λ ns. LoadedOn c.loop-level.loader c.load_level.new.loader before ns OfTypes (type_meaning (made before c.level-item.result)) (Some c.in-Some.node)) c.as_slice.ensures on) in (
      ap length c.in_ok-push.ensures.ok ∙ more.0,
      subst (LoadsAll c.args.loader.now c.load_level.new.loader (types_meaning (built (take (c.loop-level.level-index + 1) c.args.levels.now)))) (sym c.in_ok-push.ensures.ok) more.1,
    )

pub at-requires : goal.at-requires
at-requires c = root_there c.args.levels.now c.args.root c.loop-level.level-index c.loop-level.nodes c.requires.thin c.loop-level-test.false c.loop-level.invariant.0

pub returns : goal.returns
returns c =
    subst (Loads c.args.loader.now c.loop-level.loader OfTypes (type_meaning (at (built c.args.levels.now) c.args.root))) (found_node c.loop-level.nodes c.args.root _ c.at.ensures)
    (levels_loaded c.args.levels.now c.args.root c.loop-level.level-index c.loop-level.nodes c.requires.thin c.loop-level-test.false c.loop-level.invariant.0 c.args.loader.now c.loop-level.loader c.loop-level.invariant.1)
