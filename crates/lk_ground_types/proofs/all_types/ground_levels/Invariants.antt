use Rattle.std.proofs.Common.{take}
use Rattle.lk_ground_types.specs.Becoming.{AreGround}
use Rattle.lk_ground_types.proofs.all_types.ground_levels.Given as goal

abbrev pub invariant-loop-level : goal.invariant-loop-level
invariant-loop-level l = AreGround l.bindings l.initial.grounds l.grounds (take l.level-index l.levels) l.numbers
