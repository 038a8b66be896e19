use Rattle.std.proofs.Common.{take}
use Rattle.lk_cps.proofs.envs.envs_at.Given as goal
use Rattle.lk_cps.specs.Conts.{IsEnvOf}
use Rattle.lk_evaluation.specs.Laws.{Both}

abbrev pub invariant-loop-label : goal.invariant-loop-label
invariant-loop-label l = Both (IsEnvOf l.table) (take l.label-index l.labels) l.envs
