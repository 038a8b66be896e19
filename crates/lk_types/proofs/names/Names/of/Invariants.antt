use Rattle.std.proofs.Common.{take}
use Rattle.lk_types.specs.Variables.{firsts}
use Rattle.lk_types.proofs.Numbers.{IsNumbered}
use Rattle.lk_types.proofs.names.Names.of.Given as goal

abbrev pub invariant-loop-variable : goal.invariant-loop-variable
invariant-loop-variable l = IsNumbered l.names (firsts (take l.variable-index l.variables))
