use Rattle.std.proofs.Common.{◌++◌, ◌∙◌, ap, flat_map}
use Rattle.lk_types.specs.Variables.{variables_of}
use Rattle.lk_unify.proofs.LevelVariables.{among_levels, among_same}
use Rattle.lk_unify.proofs.variables.side_variables.Goals as goal
use Rattle.lk_unify.specs.LevelLoading.{level_variables}

pub returns-in-Some : goal.returns-in-Some
returns-in-Some c = among_same _ _ (c.in_ok-push_variables.ensures ∙ ap (λ xs. xs ++ variables_of c.in-Some.ty.now) c.new-variables.ensures ∙ ap variables_of c.in-Some.ensures)

pub returns : goal.returns
returns c =
    let thin = c.parts-table.ensures.thin in
    among_levels c.parts-table.result.0.now c.parts-table.result.1 _ _ thin.table.below thin.table.roots_below.0 (c.parts-table.ensures.is ∙ c.in_ok-one.ensures)
    (c.in_ok-push_levels.ensures ∙ ap (λ xs. xs ++ flat_map level_variables c.parts-table.result.0.now) c.new-variables.ensures)
