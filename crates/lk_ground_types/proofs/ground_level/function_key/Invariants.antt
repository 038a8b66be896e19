use Rattle.std.proofs.Common.{◌≡◌, ◌++◌, take}
use Rattle.lk_ground_types.proofs.ground_level.function_key.Given as goal

abbrev pub invariant-loop-param : goal.invariant-loop-param
invariant-loop-param l = l.key ≡ l.initial.key ++ take l.param-index l.params
