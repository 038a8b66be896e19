use Rattle.std.proofs.Common.{take}
use Rattle.lk_cps.proofs.envs.types_of.Given as goal
use Rattle.lk_cps.specs.Conts.{IsTypeOf}
use Rattle.lk_evaluation.specs.Laws.{Both}

abbrev pub invariant-loop-name : goal.invariant-loop-name
invariant-loop-name l = Both (IsTypeOf l.table l.node) (take l.name-index l.names) l.types
