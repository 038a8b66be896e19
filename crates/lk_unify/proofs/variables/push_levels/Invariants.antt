use Rattle.std.proofs.Common.{◌≡◌, ◌++◌, flat_map, take}
use Rattle.lk_unify.proofs.variables.push_levels.Given as goal
use Rattle.lk_unify.specs.LevelLoading.{level_variables}

abbrev pub invariant-loop-level : goal.invariant-loop-level
invariant-loop-level l = l.variables ≡ l.fn.variables ++ flat_map level_variables (take l.level-index l.levels)
