use Rattle.std.proofs.Common.{◌≡◌, ◌++◌, drop, flat_map}
use Rattle.lk_bag.specs.Inside.{in_function, shown}
use Rattle.lk_index.specs.Places.{shown as functions_shown}
use Rattle.lk_bag.proofs.blocks.in_functions.Given as goal

abbrev pub invariant-loop-function : goal.invariant-loop-function
invariant-loop-function l = shown l.found ++ flat_map in_function (functions_shown (drop l.function-index l.functions)) ≡ flat_map in_function (functions_shown l.functions)
