use Rattle.std.proofs.Common.{◌<◌, ◌∙◌, length, subst, sym}
use Rattle.std.proofs.lemmas.Result.{IfOk-weaker}
use Rattle.lk_types.specs.Each.{Each}
use Rattle.lk_arena.proofs.EachLemmas.{Each-get_or}
use Rattle.lk_arena.specs.Shapes.{AllBelow}
use Rattle.lk_unify.proofs.LoadLevelParts.{any_long, any_types, level_function, places_each}
use Rattle.lk_unify.proofs.load_levels.load_level_function.Goals as goal
use Rattle.lk_unify.specs.LevelLoading.{node_at}
use Rattle.lk_unify.specs.Loading.{AddsFunction}

pub load_function-requires-clause-answer : goal.load_function-requires-clause-answer
load_function-requires-clause-answer c = Each-get_or (λ n. n < length c.args.loader.now.arena.shapes) c.args.nodes.now c.args.part 0 c.requires.part c.requires.nodes

pub load_function-requires-clause-params : goal.load_function-requires-clause-params
load_function-requires-clause-params c =
    let ns = c.args.nodes.now in
    subst (AllBelow (length c.args.loader.now.arena.shapes)) (sym (c.as_slice.ensures ∙ c.in_ok-others.ensures))
    (places_each (any_types ns) ns (any_long ns) (λ n. n < length c.args.loader.now.arena.shapes) c.requires.nodes c.args.params.now (subst (λ m. Each (λ p. p < m) c.args.params.now) (any_long ns) c.requires.params))

pub returns : goal.returns
returns c =
    IfOk-weaker c.load_function.result _ _
    (λ answer adds ts same. level_function ts c.args.nodes.now same c.args.loader.now c.requires.nodes c.args.params.now c.args.effects.now c.args.part
    (subst (λ m. c.args.part < m) same c.requires.part, subst (λ m. Each (λ p. p < m) c.args.params.now) same c.requires.params) c.load_function.new.loader answer
    (subst (λ others. AddsFunction c.args.loader.now c.load_function.new.loader c.args.effects.now (node_at c.args.nodes.now c.args.part) others answer) (c.as_slice.ensures ∙ c.in_ok-others.ensures) adds))
    c.load_function.ensures
