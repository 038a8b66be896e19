use Rattle.std.proofs.Common.{◌≡◌, length, take}
use Rattle.lk_types.specs.Levels.{built}
use Rattle.lk_unify.proofs.load_levels.load_levels.Given as goal
use Rattle.lk_unify.specs.Loading.{types_meaning, LoadsAll}

abbrev pub invariant-loop-level : goal.invariant-loop-level
invariant-loop-level l = (length l.nodes ≡ length (built (take l.level-index l.levels))) × LoadsAll l.fn.loader l.loader (types_meaning (built (take l.level-index l.levels))) l.nodes
